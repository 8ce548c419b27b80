-- The slots of a body's scope.
use Rattle.std.proofs.Common.{◌≡◌, ℕ, zero, suc, ◌+◌, ◌-◌, ◌<◌, ◌≤◌, Bool, true, false, List, [], ◌∷◌, ◌++◌, length, get_or, take, drop, map, replicate, reverse, set, Option, Some, None, refl, sym, ap, ◌∙◌, arith, eqb, leb, ltb, nat_eq, nat_le, nat_lt, ◌&&◌, if◌then◌else◌, append_assoc}
use Rattle.std.proofs.lemmas.Bool.{eq-eqb, eqb-true, leb-false, leb-true, ltb-false, ltb-true}
use Rattle.std.proofs.lemmas.List.{get_or-drop, get_or-reverse, get_or-take, get_or_past, length-reverse, length-take, length-take-le, replicate-append-replicate, set-append_right, set_past}
use Rattle.std.proofs.Math.Seq.{set-append_seam, get_or-append_seam, take-suc}
use Rattle.std.proofs.Math.ListN.{drop_of_length-le}
use Rattle.lava_base.specs.declared.ids.MadeSymbol.{MadeSymbol}
use Rattle.lava_base.specs.declared.ids.Ref.{Ref}
use Rattle.js_text.specs.declared.value.Value.{Value}
use Rattle.js_text.specs.declared.value.Value.TheVariants as value
use Rattle.js_state.specs.Scopes.{Scope, with_slot}
use Rattle.js_code.specs.Tables.{part_of}
use Rattle.js_code.specs.declared.node.TemplateRow.{TemplateRow}
use Rattle.js_operation.specs.js_run.Functions.{given_slots, other_slots, start_slot}
use Rattle.js_machine.specs.Filling.{Slots, argument_at, bound_from, scope_with, started_in, with_open_scope}
use Rattle.js_machine.specs.Views.{args_on, Values, View, below, top}
use Rattle.js_machine.proofs.Dropped.{drop_below}

abbrev V : Type 0
V = Value Ref MadeSymbol

abbrev Scopes : Type 0
Scopes = List (Scope Ref MadeSymbol)

abbrev nothing : Option V
nothing = Some value.Undefined

-- THE NEWEST SCOPE

pub written : (ss : Scopes) (outer i : ℕ) (xs : Slots) (v : V) → with_slot (ss ++ scope_with outer xs ∷ []) (length ss) i v ≡ ss ++ scope_with outer (set xs i (Some v)) ∷ []
written ss outer i xs v = set-append_seam ss (scope_with outer xs) [] _ ∙ ap (λ (s : Scope Ref MadeSymbol). ss ++ scope_with s.outer (set s.slots i (Some v)) ∷ []) (get_or-append_seam ss (scope_with outer xs) [] _)

-- SLOTS THAT START AS UNDEFINED

abbrev starts : List ℕ → ℕ → Option V
starts us i = start_slot us i

abbrev others : List ℕ → ℕ → ℕ → Slots
others us at count = other_slots us at count

either : {A : Type 0} (b : Bool) (x y z : A) → y ≡ z → (if b then x else y) ≡ (if b then x else z)
either b x y z e = ap (λ w. if b then x else w) e

same : {A : Type 0} (b : Bool) (x y : A) → y ≡ x → (if b then x else y) ≡ x
same true x y e = refl
same false x y e = e

started : (us : List ℕ) (n : ℕ) → starts (us ++ n ∷ []) n ≡ Some value.Undefined
started [] n = ap (λ b. if b then Some value.Undefined else None) (eq-eqb n n refl)
started (u ∷ us) n = same (nat_eq u n) (Some value.Undefined) (starts (us ++ n ∷ []) n) (started us n)

unequal : (n i : ℕ) (b : Bool) → eqb n i ≡ b → (n ≡ i → ⊥) → b ≡ false
unequal n i true e d = absurd (d (eqb-true n i e))
unequal n i false e d = refl

not_started : (us : List ℕ) (n i : ℕ) → (n ≡ i → ⊥) → starts (us ++ n ∷ []) i ≡ starts us i
not_started [] n i d = ap (λ b. if b then Some value.Undefined else None) (unequal n i _ refl d)
not_started (u ∷ us) n i d = either (nat_eq u i) (Some value.Undefined) (starts (us ++ n ∷ []) i) (starts us i) (not_started us n i d)

before : (us : List ℕ) (n at count : ℕ) → n < at → others (us ++ n ∷ []) at count ≡ others us at count
before us n at zero l = refl
before us n at (suc c) l = λ j. not_started us n at (λ e. omega (arith, e, l)) j ∷ before us n (suc at) c (omega (arith, l)) j

within : (us : List ℕ) (n at k count : ℕ) → n ≡ at + k → others (us ++ n ∷ []) at count ≡ set (others us at count) k (Some value.Undefined)
within us n at k zero e = refl
within us n at zero (suc c) e = let same : at ≡ n = omega (arith, e) in λ j. (ap (starts (us ++ n ∷ [])) same ∙ started us n) j ∷ before us n (suc at) c (omega (arith, e)) j
within us n at (suc k) (suc c) e = λ j. not_started us n at (λ d. omega (arith, d, e)) j ∷ within us n (suc at) k c (omega (arith, e)) j

none_start : (at count : ℕ) → others [] at count ≡ replicate count None
none_start at zero = refl
none_start at (suc c) = ap (λ xs. None ∷ xs) (none_start (suc at) c)

length_others : (us : List ℕ) (at count : ℕ) → length (others us at count) ≡ count
length_others us at zero = refl
length_others us at (suc c) = ap suc (length_others us (suc at) c)

length_empty : (n : ℕ) → length (replicate {A = Option V} n None) ≡ n
length_empty zero = refl
length_empty (suc n) = ap suc (length_empty n)

module _ (ss : Scopes) (outer first params slots : ℕ) (us : List ℕ) (slot : ℕ) where
  abbrev shape : List ℕ → Scopes
  shape xs = ss ++ scope_with outer (replicate first None ++ others xs params (slots - params)) ∷ []

  abbrev Started : Bool → Type 0
  Started b = started_in b (first + (slot - params)) (length ss) (shape us) ≡ shape (us ++ slot ∷ [])

  over_others : (xs : Slots) → others (us ++ slot ∷ []) params (slots - params) ≡ xs → shape (us ++ slot ∷ []) ≡ ss ++ scope_with outer (replicate first None ++ xs) ∷ []
  over_others xs e = ap (λ ys. ss ++ scope_with outer (replicate first None ++ ys) ∷ []) e

  one_started : params ≤ slot → Started true
  one_started l =
      let place : first + (slot - params) - first ≡ slot - params = omega arith in
      let ys = others us params (slots - params) in
      written ss outer (first + (slot - params)) (replicate first None ++ ys) value.Undefined
      ∙ ap (λ xs. ss ++ scope_with outer xs ∷ []) (set-append_right (replicate first None) ys first (first + (slot - params)) nothing (length_empty first) (omega arith) ∙ ap (λ k. replicate first None ++ set ys k nothing) place)
      ∙ sym (over_others (set ys (slot - params) nothing) (within us slot params (slot - params) (slots - params) (omega (arith, l))))

  not_there : params ≤ slot → slots ≤ slot → Started false
  not_there l m =
      let ys = others us params (slots - params) in
      sym (over_others ys (within us slot params (slot - params) (slots - params) (omega (arith, l)) ∙ set_past ys (slot - params) nothing (omega (arith, length_others us params (slots - params), l, m))))

  started_if : (b d : Bool) → leb params slot ≡ b → ltb slot slots ≡ d → Started (b && d)
  started_if true true e f = one_started (leb-true params slot e)
  started_if true false e f = not_there (leb-true params slot e) (ltb-false slot slots f)
  started_if false d e f = sym (over_others (others us params (slots - params)) (before us slot params (slots - params) (leb-false params slot e)))

  pub started_one : Started (nat_le params slot && nat_lt slot slots)
  started_one = started_if (leb params slot) (ltb slot slots) refl refl

-- no slot has a value yet
pub opened_bare : (first params slots n : ℕ) → n ≡ slots - params → replicate (first + n) None ≡ replicate first None ++ others [] params (slots - params)
opened_bare first params slots n e = sym (replicate-append-replicate first n None) ∙ ap (λ k. replicate first None ++ replicate k None) e ∙ ap (λ xs. replicate first None ++ xs) (sym (none_start params (slots - params)))

-- one number more of a list
next_number : (ns : List ℕ) (start count i n : ℕ) → i < length (part_of start count ns) → n ≡ get_or ns (start + i) 0 → take (i + 1) (part_of start count ns) ≡ take i (part_of start count ns) ++ n ∷ []
next_number ns start count i n l e =
    let more : i + 1 ≡ suc i = omega arith in
    let within : i < count = omega (arith, l, length-take count (drop start ns)) in
    ap (λ k. take k (part_of start count ns)) more
    ∙ take-suc (part_of start count ns) i 0 l
    ∙ ap (λ k. take i (part_of start count ns) ++ k ∷ []) (get_or-take count (drop start ns) i 0 within ∙ get_or-drop start ns i 0 ∙ sym e)

module _ (old w new : View) (row : TemplateRow) (outer first scope i slot : ℕ) where
  abbrev names : List ℕ
  names = part_of row.undefined_start row.undefined_count old.code.numbers

  abbrev Opened : List ℕ → View
  Opened us = with_open_scope outer (replicate first None ++ others us row.params (row.slots - row.params)) old

  pub one_more_started : w ≡ Opened (take i names) → scope ≡ length old.scopes → i < length names → slot ≡ get_or old.code.numbers (row.undefined_start + i) 0
      → new ≡ record w { scopes = started_in (nat_le row.params slot && nat_lt slot row.slots) (first + (slot - row.params)) scope w.scopes } → new ≡ Opened (take (i + 1) names)
  one_more_started e s l n d =
      d
      ∙ (λ j. record (e j) { scopes = started_in (nat_le row.params slot && nat_lt slot row.slots) (first + (slot - row.params)) (s j) (e j).scopes })
      ∙ ap (λ ss. record old { scopes = ss }) (started_one old.scopes outer first row.params row.slots (take i names) slot)
      ∙ ap Opened (sym (next_number old.code.numbers row.undefined_start row.undefined_count i slot l n))

-- PARAMETERS

pub last_empty : (j : ℕ) (x : Option V) (ys : Slots) → set (replicate (suc j) None ++ ys) j x ≡ replicate j None ++ x ∷ ys
last_empty zero x ys = refl
last_empty (suc j) x ys = ap (λ zs. None ∷ zs) (last_empty j x ys)

more_given : (j m n : ℕ) (args : Values) → j < m → j ≤ n → take (suc j) (map Some args ++ replicate m (Some value.Undefined)) ≡ take j (map Some args ++ replicate n (Some value.Undefined)) ++ Some (argument_at args j) ∷ []
more_given zero zero n [] l k = absurd (omega (arith, l))
more_given zero (suc m) n [] l k = refl
more_given (suc j) zero n [] l k = absurd (omega (arith, l))
more_given (suc j) (suc m) zero [] l k = absurd (omega (arith, k))
more_given (suc j) (suc m) (suc n) [] l k = ap (λ xs. Some value.Undefined ∷ xs) (more_given j m n [] (omega (arith, l)) (omega (arith, k)))
more_given zero m n (a ∷ args) l k = refl
more_given (suc j) m n (a ∷ args) l k = ap (λ xs. Some a ∷ xs) (more_given j m n args (omega (arith, l)) (omega (arith, k)))

-- the parameters have their values
pub bound : (n : ℕ) (args : Values) (ss : Scopes) (outer : ℕ) (ys : Slots) → bound_from n args (length ss) (ss ++ scope_with outer (replicate n None ++ ys) ∷ []) ≡ ss ++ scope_with outer (given_slots n args ++ ys) ∷ []
bound zero args ss outer ys = refl
bound (suc n) args ss outer ys =
    ap (bound_from n args (length ss)) (written ss outer n (replicate (suc n) None ++ ys) (argument_at args n) ∙ ap (λ xs. ss ++ scope_with outer xs ∷ []) (last_empty n (Some (argument_at args n)) ys))
    ∙ bound n args ss outer (Some (argument_at args n) ∷ ys)
    ∙ ap (λ xs. ss ++ scope_with outer xs ∷ []) (sym (ap (λ xs. xs ++ ys) (more_given n (suc n) n args (omega arith) (omega arith)) ∙ append_assoc (given_slots n args) (Some (argument_at args n) ∷ []) ys))

-- ARGUMENTS ON THE STACK

take_none : (n : ℕ) → take {A = V} n [] ≡ []
take_none zero = refl
take_none (suc n) = refl

take_all : (n : ℕ) (vs : Values) → length vs ≤ n → take n vs ≡ vs
take_all n [] l = take_none n
take_all zero (v ∷ vs) l = absurd (omega (arith, l))
take_all (suc n) (v ∷ vs) l = ap (λ ws. v ∷ ws) (take_all n vs (omega (arith, l)))

pub all_taken : (vs : Values) (n m : ℕ) → n ≡ length vs → n < m → args_on n vs ≡ args_on m vs
all_taken vs n m e l = ap reverse (take_all n vs (omega (arith, e)) ∙ sym (take_all m vs (omega (arith, e, l))))

pub all_dropped : (vs : Values) (n m : ℕ) → n ≡ length vs → n < m → drop n vs ≡ drop m vs
all_dropped vs n m e l = drop_of_length-le vs (omega (arith, e)) ∙ sym (drop_of_length-le vs (omega (arith, e, l)))

pub top_of : (k : ℕ) (vs : Values) → top (drop k vs) ≡ get_or vs k value.Undefined
top_of zero [] = refl
top_of zero (v ∷ vs) = refl
top_of (suc k) [] = refl
top_of (suc k) (v ∷ vs) = top_of k vs

module _ (at given : ℕ) (vs : Values) (l : given ≤ length vs) where
  many : length (take given vs) ≡ given
  many = length-take-le given vs l

  abbrev Is : Bool → V → Type 0
  Is b v = (if b then v else value.Undefined) ≡ argument_at (args_on given vs) at

  taken_if : (b : Bool) → ltb at given ≡ b → Is b (top (drop (given - suc at) vs))
  taken_if true t =
      let less : at < given = ltb-true at given t in
      let there : at < length (take given vs) = omega (arith, less, many) in
      let place : length (take given vs) - 1 - at ≡ given - suc at = omega (arith, many) in
      top_of (given - suc at) vs ∙ sym (get_or-take given vs (given - suc at) value.Undefined (omega (arith, less))) ∙ ap (λ k. get_or (take given vs) k value.Undefined) (sym place) ∙ sym (get_or-reverse (take given vs) at value.Undefined there)
  taken_if false t = sym (get_or_past (args_on given vs) at value.Undefined (omega (arith, length-reverse (take given vs), many, ltb-false at given t)))

  left_if : (b : Bool) → ltb at given ≡ b → (if b then below (drop (given - suc at) vs) else drop (given - suc at) vs) ≡ drop (given - at) vs
  left_if true t = drop_below (given - suc at) vs ∙ ap (λ k. drop k vs) (let less : at < given = ltb-true at given t in let e : given - suc at + 1 ≡ given - at = omega arith in e)
  left_if false t = ap (λ k. drop k vs) (let more : given ≤ at = ltb-false at given t in let e : given - suc at ≡ given - at = omega arith in e)

-- one more argument is in its slot
pub taken_step : (at given : ℕ) (vs ws : Values) (v : V) → given ≤ length vs → ws ≡ drop (given - suc at) vs → v ≡ (if ltb at given then top ws else value.Undefined) → v ≡ argument_at (args_on given vs) at
taken_step at given vs ws v l e d = d ∙ ap (λ xs. if ltb at given then top xs else value.Undefined) e ∙ taken_if at given vs l _ refl

pub left_step : (at given : ℕ) (vs ws us : Values) → given ≤ length vs → ws ≡ drop (given - suc at) vs → us ≡ (if ltb at given then below ws else ws) → us ≡ drop (given - at) vs
left_step at given vs ws us l e d = d ∙ ap (λ xs. if ltb at given then below xs else xs) e ∙ left_if at given vs l _ refl

-- ONE TURN OF A LOOP

module _ (given left j scope : ℕ) (old w mid new : View) (v : V) (l : given ≤ length old.values) (s : left ≡ suc j)
    (state : w ≡ record old { values = drop (given - left) old.values; scopes = w.scopes })
    (taken : v ≡ (if ltb j given then top w.values else value.Undefined))
    (rest : mid ≡ record w { values = if ltb j given then below w.values else w.values })
    (wrote : new ≡ record mid { scopes = with_slot mid.scopes scope j v }) where
  were : w.values ≡ drop (given - suc j) old.values
  were = ap (λ (x : View). x.values) state ∙ ap (λ k. drop (given - k) old.values) s

  between : mid ≡ record old { values = drop (given - j) old.values; scopes = w.scopes }
  between = rest ∙ (λ i. record (state i) { values = left_step j given old.values w.values (if ltb j given then below w.values else w.values) l were refl i })

  pub still : new ≡ record old { values = drop (given - j) old.values; scopes = new.scopes }
  still = wrote ∙ (λ i. record (between i) { scopes = sym (ap (λ (x : View). x.scopes) wrote) i })

  pub one_less : bound_from j (args_on given old.values) scope new.scopes ≡ bound_from left (args_on given old.values) scope w.scopes
  one_less =
      let args = args_on given old.values in
      ap (λ (x : View). bound_from j args scope x.scopes) wrote
      ∙ (λ i. bound_from j args scope (with_slot (between i).scopes scope j (taken_step j given old.values w.values v l were taken i)))
      ∙ ap (λ k. bound_from k args scope w.scopes) (sym s)
