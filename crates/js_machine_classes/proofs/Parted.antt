-- The parts of objects, arrays and classes.
use Rattle.std.proofs.Common.{◌≡◌, ℕ, zero, suc, ◌+◌, ◌-◌, ◌<◌, ◌≤◌, Bool, true, false, List, [], ◌∷◌, length, get_or, take, drop, map, ◌++◌, Option, Some, None, is_some, refl, sym, ap, ◌∙◌, subst, arith, length-take, length-drop, Result, Ok, Err, IfOk, if◌then◌else◌}
use Rattle.std.proofs.Math.Seq.{drop-cons}
use Rattle.std.specs.Option.{unwrap_or}
use Rattle.lava_base.specs.declared.ids.MadeSymbol.{MadeSymbol}
use Rattle.lava_base.specs.declared.ids.Ref.{Ref}
use Rattle.js_text.specs.Naming.{Naming, Own, naming_of}
use Rattle.js_text.specs.declared.value.Key.{Key}
use Rattle.js_text.specs.declared.value.Value.{Value}
use Rattle.js_text.specs.declared.value.Value.TheVariants as value
use Rattle.js_desc.specs.declared.ask.Ask.TheVariants as ask
use Rattle.js_desc.specs.declared.descriptor.PartialDescriptor.{PartialDescriptor}
use Rattle.js_desc.specs.declared.fault.FaultText.TheVariants as fault
use Rattle.js_code.specs.Decoded.{part_of_row, parts_of, template_at, term_at}
use Rattle.js_code.specs.Tables.{Tables, part_of}
use Rattle.js_code.specs.declared.node.PartRow.{PartRow}
use Rattle.js_code.specs.declared.node.PartRow.TheVariants as part_row
use Rattle.js_term.specs.Layers.{PartLayer}
use Rattle.js_term.specs.declared.term.Arguments.TheOpen.{Part-F}
use Rattle.js_term.specs.declared.term.Part.{Part, out-Part}
use Rattle.js_term.specs.declared.term.Part.TheVariants.{outs-Data, outs-Method, outs-Getter, outs-Setter, outs-Spread, outs-Item, outs-Hole}
use Rattle.js_ordinary.specs.Origins.{object_of}
use Rattle.js_store.specs.Frozen.{common_ref}
use Rattle.js_store.specs.Objects.{Object, object_at}
use Rattle.js_machine.specs.js_run.Acts.{Act, Evaluate, give, with_value}
use Rattle.js_machine.specs.js_run.Faults.{faults}
use Rattle.js_machine.specs.js_run.Parties.{Party, Shared}
use Rattle.js_machine.specs.js_run.Functions.{method_made, next_object}
use Rattle.js_machine.specs.js_run.Parts.{adds_hole, adds_item, data_part, define_on, defines, defines_part, defines_parts, is_array}
use Rattle.js_machine.specs.js_run.Properties.{to_key}
use Rattle.js_machine.specs.js_run.Runs.{answered}
use Rattle.js_machine.specs.Definitions.{GoesOnAs, HasHole, HasItem, HasOtherObjects, IsDefined, helper_into, with_held}
use Rattle.js_machine.specs.Decisions.{object_of_value}
use Rattle.js_machine.specs.Keys.{plain_key}
use Rattle.js_machine.specs.Made.{function_of, function_prototype, next_own, row_of, with_function}
use Rattle.js_machine.specs.Parts.{function_fields, function_then, holders_of, key_then, operand_of, part_at, part_comes, part_valued, parts_go, spread_helper, spread_then}
use Rattle.js_machine.specs.Steps.{Deed, LeadsTo, Waits, WaitsFor, deed_with, settles, under}
use Rattle.js_machine.specs.Views.{Around, Values, View, below, fitting, holding_on, next_part_of, party_of, top}
use Rattle.js_machine.specs.declared.frame.Frame.TheVariants as frame
use Rattle.js_machine.specs.declared.frame.Mode.{Mode}
use Rattle.js_machine.specs.declared.holding.FunctionPart.{FunctionPart}
use Rattle.js_machine.specs.declared.holding.Holding.{Holding}
use Rattle.js_machine.proofs.Created.{number, one_more}
use Rattle.js_machine.proofs.Followed.{is_object}
use Rattle.js_machine.proofs.Referenced.{reference_known, same_deed}

-- LISTS OF PARTS

-- of so many parts there are no more
pub part_most : {A : Type 0} (xs : List A) (s c : ℕ) → length (part_of s c xs) ≤ c
part_most xs s c = omega (arith, length-take c (drop s xs))

pub part_within : {A : Type 0} (xs : List A) (s c : ℕ) → length (part_of s c xs) ≤ length xs - s
part_within xs s c = omega (arith, length-take c (drop s xs), length-drop s xs)

first_of : {A : Type 0} (xs : List A) (none : A) (s c : ℕ) → s < length xs → part_of s (suc c) xs ≡ get_or xs s none ∷ part_of (suc s) c xs
first_of xs none s c l = ap (take (suc c)) (drop-cons xs s none l)

-- so many as there are
as_there : {A : Type 0} (n : ℕ) (xs : List A) → take (length (take n xs)) xs ≡ take n xs
as_there zero xs = refl
as_there (suc n) [] = refl
as_there (suc n) (x ∷ xs) = ap (λ ys. x ∷ ys) (as_there n xs)

-- OTHER OBJECTS

abbrev Objects : Type 0
Objects = List (Object Ref MadeSymbol)

-- what leads on from a machine with other objects and templates leads there from the one before
pub led_moved : {E : Type 0} (r : Result Mode E) (d : View → Deed) (e : Deed) (old mid new : View) (os : Objects) (ts : List ℕ) → mid ≡ record old { objects = os; templates = ts } → ((a : Around) → e (fitting old a) ≡ d mid (fitting old a))
    → IfOk r (LeadsTo (d mid) mid new) → IfOk r (LeadsTo e old new)
led_moved (Ok m) d e old mid new os ts q s h =
    let w = subst (λ x. LeadsTo (d x) x new m) q h in
    record {
      leads = λ a. (let b = fitting old a in w.leads a ∙ ap (λ act. settles b old old.values (answered (naming_of old.me) b.env act)) (ap (λ x. d x b) (sym q) ∙ sym (s a)));
      keeps = w.keeps;
    }
led_moved (Err x) d e old mid new os ts q s h = tt

abbrev pub Goes : Holding → (start count : ℕ) → View → Deed
Goes h start count w = λ a. parts_go (naming_of w.me) a.shared w.code h start count (party_of a w)

-- ONE PART

module _ (names : Naming Ref MadeSymbol) (shared : Shared) (c : Tables) (h : Holding) where
  abbrev Done : Type 0
  Done = Party Ref MadeSymbol → Act Ref MadeSymbol

  -- the first part and those behind it
  first_goes : (at left : ℕ) (p : Party Ref MadeSymbol) → at < length c.parts
      → parts_go names shared c h at (suc left) p ≡ defines_part names shared (holders_of h) (out-Part (part_of_row c (term_at c) (part_at c at))) p (parts_go names shared c h (suc at) left)
  first_goes at left p l = ap (λ rows. defines_parts names shared (holders_of h) (map (part_of_row c (term_at c)) rows) p (λ q. give (value.Ref h.constructor) q)) (first_of c.parts part_row.Hole at left l)

  operand_is : (row : PartRow) (j k : ℕ) (at left : ℕ) (p : Party Ref MadeSymbol) → Some j ≡ Some k
      → Evaluate (term_at c j) p (with_value (part_comes names shared c h at left row)) ≡ Evaluate (term_at c k) p (with_value (part_comes names shared c h at left row))
  operand_is row j k at left p e = ap (λ o. Evaluate (term_at c (unwrap_or o j)) p (with_value (part_comes names shared c h at left row))) e

  begins : (row : PartRow) (k at left : ℕ) (p : Party Ref MadeSymbol) → operand_of row ≡ Some k
      → defines_part names shared (holders_of h) (out-Part (part_of_row c (term_at c) row)) p (parts_go names shared c h (suc at) left) ≡ Evaluate (term_at c k) p (with_value (part_comes names shared c h at left row))
  begins (part_row.Data j v) k at left p e = ap (λ l. defines_part names shared (holders_of h) l p (parts_go names shared c h (suc at) left)) (outs-Data (term_at c j) (term_at c v)) ∙ operand_is (part_row.Data j v) j k at left p e
  begins (part_row.Method s j t) k at left p e = ap (λ l. defines_part names shared (holders_of h) l p (parts_go names shared c h (suc at) left)) (outs-Method s (term_at c j) (template_at c (term_at c) t)) ∙ operand_is (part_row.Method s j t) j k at left p e
  begins (part_row.Getter s j t) k at left p e = ap (λ l. defines_part names shared (holders_of h) l p (parts_go names shared c h (suc at) left)) (outs-Getter s (term_at c j) (template_at c (term_at c) t)) ∙ operand_is (part_row.Getter s j t) j k at left p e
  begins (part_row.Setter s j t) k at left p e = ap (λ l. defines_part names shared (holders_of h) l p (parts_go names shared c h (suc at) left)) (outs-Setter s (term_at c j) (template_at c (term_at c) t)) ∙ operand_is (part_row.Setter s j t) j k at left p e
  begins (part_row.Spread j) k at left p e = ap (λ l. defines_part names shared (holders_of h) l p (parts_go names shared c h (suc at) left)) (outs-Spread (term_at c j)) ∙ operand_is (part_row.Spread j) j k at left p e
  begins (part_row.Item j) k at left p e = ap (λ l. defines_part names shared (holders_of h) l p (parts_go names shared c h (suc at) left)) (outs-Item (term_at c j)) ∙ operand_is (part_row.Item j) j k at left p e
  begins part_row.Hole k at left p e = cc

  hole_first : (row : PartRow) (at left : ℕ) (p : Party Ref MadeSymbol) → operand_of row ≡ None
      → defines_part names shared (holders_of h) (out-Part (part_of_row c (term_at c) row)) p (parts_go names shared c h (suc at) left) ≡ parts_go names shared c h (suc at) left (adds_hole names shared h.instance p)
  hole_first part_row.Hole at left p e = ap (λ l. defines_part names shared (holders_of h) l p (parts_go names shared c h (suc at) left)) outs-Hole
  hole_first (part_row.Data j v) at left p e = cc
  hole_first (part_row.Method s j t) at left p e = cc
  hole_first (part_row.Getter s j t) at left p e = cc
  hole_first (part_row.Setter s j t) at left p e = cc
  hole_first (part_row.Spread j) at left p e = cc
  hole_first (part_row.Item j) at left p e = cc

  -- a key that is no object is the same each time
  key_plain : (v : Value Ref MadeSymbol) (at left e : ℕ) (p : Party Ref MadeSymbol) → object_of_value v ≡ None
      → key_then names shared c h at left e v p ≡ Evaluate (term_at c e) p (with_value (part_valued names shared c h at left v))
  key_plain value.Undefined at left e p n = refl
  key_plain value.Null at left e p n = refl
  key_plain (value.Bool true) at left e p n = refl
  key_plain (value.Bool false) at left e p n = refl
  key_plain (value.Int i) at left e p n = refl
  key_plain (value.Text t) at left e p n = refl
  key_plain (value.Symbol s) at left e p n = refl
  key_plain (value.Ref r) at left e p n = cc

-- HOLES

is_none : (o : Option ℕ) → is_some o ≡ false → o ≡ None
is_none None e = refl
is_none (Some n) e = cc

-- a hole more, whatever objects there are
holed_from : (o : Ref) (old mid new : View) → HasOtherObjects old mid → HasHole o mid new → (a : Around) → party_of (fitting old a) new ≡ adds_hole (naming_of old.me) (fitting old a).shared o (party_of (fitting old a) mid)
holed_from o old mid new q w a = subst (λ (x : View). party_of (fitting x a) new ≡ adds_hole (naming_of x.me) (fitting x a).shared o (party_of (fitting x a) mid)) q (w a)

-- nothing is added yet
pub no_holes : (h : Holding) (start count : ℕ) (old : View) → GoesOnAs h start count (start + 0) (count - 0) old old
no_holes h start count old =
    let s : start + 0 ≡ start = omega arith in
    let c : count - 0 ≡ count = omega arith in
    λ a. (let b = fitting old a in λ j. parts_go (naming_of old.me) b.shared old.code h (s j) (c j) (party_of b old))

pub one_hole : (h : Holding) (start count i : ℕ) (row : PartRow) (o : Option ℕ) (old mid new : View) → HasOtherObjects old mid → GoesOnAs h start count (start + i) (count - i) old mid → count ≤ length old.code.parts - start → i < count
    → row ≡ part_at mid.code (start + i) → o ≡ operand_of row → is_some o ≡ false → HasHole h.instance mid new → GoesOnAs h start count (start + (i + 1)) (count - (i + 1)) old new
one_hole h start count i row o old mid new q g l n f e z w =
    λ a. (let b = fitting old a in
    let names = naming_of old.me in
    let place : start + (i + 1) ≡ suc (start + i) = omega arith in
    let fewer : count - i ≡ suc (count - (i + 1)) = omega (arith, n) in
    let at : start + i < length old.code.parts = omega (arith, l, n) in
    let code : part_at mid.code (start + i) ≡ part_at old.code (start + i) = ap (λ (x : View). part_at x.code (start + i)) q in
    let none : operand_of (part_at old.code (start + i)) ≡ None = is_none _ (ap (λ x. is_some (operand_of x)) (sym code ∙ sym f) ∙ ap is_some (sym e) ∙ z) in
    let holed : party_of b new ≡ adds_hole names b.shared h.instance (party_of b mid) = holed_from h.instance old mid new q w a in
    (λ j. parts_go names b.shared old.code h (place j) (count - (i + 1)) (holed j))
    ∙ sym (hole_first names b.shared old.code h (part_at old.code (start + i)) (start + i) (count - (i + 1)) (party_of b mid) none)
    ∙ sym (first_goes names b.shared old.code h (start + i) (count - (i + 1)) (party_of b mid) at)
    ∙ ap (λ n. parts_go names b.shared old.code h (start + i) n (party_of b mid)) (sym fewer)
    ∙ g a)

pub others_twice : (old mid new : View) → HasOtherObjects old mid → HasOtherObjects mid new → HasOtherObjects old new
others_twice old mid new e f = f ∙ (λ j. record (e j) { objects = new.objects })

-- PARTS GO ON

-- so many as there are of a count
there_goes : (h : Holding) (start count there : ℕ) (old : View) → there ≡ length (part_of start count old.code.parts) → (a : Around)
    → parts_go (naming_of old.me) a.shared old.code h start count (party_of a old) ≡ parts_go (naming_of old.me) a.shared old.code h start there (party_of a old)
there_goes h start count there old e a =
    ap (λ rows. defines_parts (naming_of old.me) a.shared (holders_of h) (map (part_of_row old.code (term_at old.code)) rows) (party_of a old) (λ q. give (value.Ref h.constructor) q))
    (sym (as_there count (drop start old.code.parts)) ∙ ap (λ n. take n (drop start old.code.parts)) (sym e))

-- what goes on from a place behind holes
pub behind_holes : {E : Type 0} (r : Result Mode E) (h : Holding) (start count there start' count' : ℕ) (old mid new : View) → there ≡ length (part_of start count old.code.parts) → HasOtherObjects old mid → GoesOnAs h start there start' count' old mid
    → IfOk r (LeadsTo (Goes h start' count' mid) mid new) → IfOk r (LeadsTo (Goes h start count old) old new)
behind_holes r h start count there start' count' old mid new e q g w =
    led_moved r (Goes h start' count') (Goes h start count old) old mid new mid.objects old.templates q
    (λ a. (let b = fitting old a in
    there_goes h start count there old e b ∙ sym (g a) ∙ ap (λ (x : View). parts_go (naming_of x.me) b.shared x.code h start' count' (party_of b mid)) (sym q)))
    w

pub all_gone : {E : Type 0} (r : Result Mode E) (h : Holding) (start count there holes : ℕ) (old mid new : View) → there ≡ length (part_of start count old.code.parts) → HasOtherObjects old mid → GoesOnAs h start there (start + holes) (there - holes) old mid → holes ≡ there
    → IfOk r (LeadsTo (λ a. give (value.Ref h.constructor) (party_of a mid)) mid new) → IfOk r (LeadsTo (Goes h start count old) old new)
all_gone r h start count there holes old mid new e q g z w =
    let none : there - holes ≡ 0 = omega (arith, z) in
    behind_holes r h start count there (start + holes) 0 old mid new e q (λ a. (let b = fitting old a in ap (λ n. parts_go (naming_of old.me) b.shared old.code h (start + holes) n (party_of b mid)) (sym none) ∙ g a)) w

pub some_left : {E : Type 0} (r : Result Mode E) (h : Holding) (start count there holes at left : ℕ) (old mid new : View) → there ≡ length (part_of start count old.code.parts) → HasOtherObjects old mid → GoesOnAs h start there (start + holes) (there - holes) old mid
    → at ≡ start + holes → suc left ≡ there - holes → IfOk r (LeadsTo (Goes h at (suc left) mid) mid new) → IfOk r (LeadsTo (Goes h start count old) old new)
some_left r h start count there holes at left old mid new e q g s n w =
    behind_holes r h start count there at (suc left) old mid new e q (λ a. (let b = fitting old a in (λ j. parts_go (naming_of old.me) b.shared old.code h (s j) (n j) (party_of b mid)) ∙ g a)) w

pub goes_behind : {E : Type 0} (r : Result Mode E) (h : Holding) (at next left : ℕ) (old new : View) → next ≡ suc at → IfOk r (LeadsTo (Goes h next left old) old new) → IfOk r (LeadsTo (Goes h (suc at) left old) old new)
goes_behind r h at next left old new e w = subst (λ n. IfOk r (LeadsTo (Goes h n left old) old new)) e w

pub one_begins : {E : Type 0} (r : Result Mode E) (h : Holding) (row : PartRow) (o : Option ℕ) (k at left : ℕ) (old mid new : View) → at < length old.code.parts → row ≡ part_at old.code at → o ≡ operand_of row → o ≡ Some k → mid ≡ with_held h old
    → IfOk r (Waits (frame.Part h.enumerable at left) k mid new) → IfOk r (LeadsTo (Goes h at (suc left) old) old new)
unfolding next_part_of
one_begins (Ok m) h row o k at left old mid new l f e s q w =
    let x = subst (λ y. Waits (frame.Part h.enumerable at left) k y new m) q w in
    record {
      leads = λ a. (let b = fitting old a in
          x.leads a
          ∙ ap (λ act. settles b old old.values (answered (naming_of old.me) b.env act))
          (sym (first_goes (naming_of old.me) b.shared old.code h at left (party_of b old) l ∙ begins (naming_of old.me) b.shared old.code h (part_at old.code at) k at left (party_of b old) (ap operand_of (sym f) ∙ sym e ∙ s))));
      keeps = x.keeps;
    }
one_begins (Err x) h row o k at left old mid new l f e s q w = tt

-- PROPERTIES

abbrev Defines : Holding → (at left : ℕ) → Ref → Key MadeSymbol → PartialDescriptor Ref MadeSymbol → View → Deed
Defines h at left o k d w = λ a. defines (naming_of w.me) a.shared o k d (party_of a w) (parts_go (naming_of w.me) a.shared w.code h (suc at) left)

pub part_defined : {E : Type 0} (r : Result Mode E) (h : Holding) (at left : ℕ) (o : Ref) (k : Key MadeSymbol) (d : PartialDescriptor Ref MadeSymbol) (done : Bool) (old mid new : View) → HasOtherObjects old mid → IsDefined o k d done old mid → done ≡ true
    → IfOk r (LeadsTo (Goes h (suc at) left mid) mid new) → IfOk r (LeadsTo (Defines h at left o k d old) old new)
part_defined r h at left o k d done old mid new q g t w =
    led_moved r (Goes h (suc at) left) (Defines h at left o k d old) old mid new mid.objects old.templates q
    (λ a. (let b = fitting old a in
    let go = parts_go (naming_of old.me) b.shared old.code h (suc at) left in
    g a go ∙ ap (λ c. if c then go (party_of b mid) else faults (naming_of old.me) fault.CannotDefine (party_of b old)) t ∙ ap (λ (x : View). parts_go (naming_of x.me) b.shared x.code h (suc at) left (party_of b mid)) (sym q)))
    w

pub part_refused : {E : Type 0} (r : Result Mode E) (h : Holding) (at left : ℕ) (o : Ref) (k : Key MadeSymbol) (d : PartialDescriptor Ref MadeSymbol) (done : Bool) (old mid new : View) → HasOtherObjects old mid → IsDefined o k d done old mid → done ≡ false → mid ≡ old
    → IfOk r (LeadsTo (λ a. faults (naming_of mid.me) fault.CannotDefine (party_of a mid)) mid new) → IfOk r (LeadsTo (Defines h at left o k d old) old new)
part_refused r h at left o k d done old mid new q g t s w =
    same_deed r (λ a. faults (naming_of old.me) fault.CannotDefine (party_of a old)) (Defines h at left o k d old) old new
    (λ a. (let b = fitting old a in
    let go = parts_go (naming_of old.me) b.shared old.code h (suc at) left in
    g a go ∙ ap (λ c. if c then go (party_of b mid) else faults (naming_of old.me) fault.CannotDefine (party_of b old)) t))
    (subst (λ (x : View). IfOk r (LeadsTo (λ a. faults (naming_of x.me) fault.CannotDefine (party_of a x)) x new)) s w)

-- the key is known
key_known : (names : Naming Ref MadeSymbol) (shared : Shared) (v : Value Ref MadeSymbol) (k : Key MadeSymbol) (p : Party Ref MadeSymbol) (go : Key MadeSymbol → Party Ref MadeSymbol → Act Ref MadeSymbol) → plain_key v ≡ Some k → to_key names shared v p go ≡ go k p
key_known names shared v k p go e = reference_known names shared (value.Bool true) v k p go refl e

pub value_defined : {E : Type 0} (r : Result Mode E) (h : Holding) (at left : ℕ) (v x : Value Ref MadeSymbol) (k : Key MadeSymbol) (d : PartialDescriptor Ref MadeSymbol) (old new : View) → plain_key v ≡ Some k → d ≡ data_part h.enumerable x
    → IfOk r (LeadsTo (Defines h at left h.instance k d old) old new) → IfOk r (LeadsTo (λ a. part_valued (naming_of old.me) a.shared old.code h at left v x (party_of a old)) old new)
value_defined r h at left v x k d old new e f w =
    same_deed r (Defines h at left h.instance k (data_part h.enumerable x) old) (λ a. part_valued (naming_of old.me) a.shared old.code h at left v x (party_of a old)) old new
    (λ a. (let b = fitting old a in key_known (naming_of old.me) b.shared v k (party_of b old) (λ name m. defines (naming_of old.me) b.shared h.instance name (data_part h.enumerable x) m (parts_go (naming_of old.me) b.shared old.code h (suc at) left)) e))
    (subst (λ y. IfOk r (LeadsTo (Defines h at left h.instance k y old) old new)) f w)

no_object : (v : Value Ref MadeSymbol) (o : Option Ref) → o ≡ object_of_value v → is_some o ≡ false → object_of_value v ≡ None
no_object v None e n = sym e
no_object v (Some r) e n = cc

pub key_waits : {E : Type 0} (r : Result Mode E) (h : Holding) (at left k : ℕ) (v : Value Ref MadeSymbol) (o : Option Ref) (old mid more new : View) → o ≡ object_of_value v → is_some o ≡ false → mid ≡ with_held h old → more ≡ record mid { values = v ∷ mid.values }
    → IfOk r (Waits (frame.PartValue h.enumerable at left) k more new) → IfOk r (LeadsTo (λ a. key_then (naming_of old.me) a.shared old.code h at left k v (party_of a old)) old new)
unfolding next_part_of
key_waits (Ok m) h at left k v o old mid more new e n q s w =
    let x = subst (λ y. Waits (frame.PartValue h.enumerable at left) k y new m) (s ∙ (λ j. record (q j) { values = v ∷ (q j).values })) w in
    record {
      leads = λ a. (let b = fitting old a in x.leads a ∙ ap (λ act. settles b old old.values (answered (naming_of old.me) b.env act)) (sym (key_plain (naming_of old.me) b.shared old.code h v at left k (party_of b old) (no_object v o e n))));
      keeps = x.keeps;
    }
key_waits (Err x) h at left k v o old mid more new e n q s w = tt

-- FUNCTIONS

-- a function with a home
method_is : (at : ℕ) (home : Option Ref) (old : View) (a : Around)
    → party_of (fitting old a) (with_function at (function_prototype old) home [] old) ≡ method_made (naming_of old.me) (fitting old a).shared (template_at old.code (term_at old.code) at) home (party_of (fitting old a) old)
method_is at home old a = λ i. record (party_of (fitting old a) old) {
  objects = old.objects ++ function_of (number a at old i) (row_of old at) (function_prototype old) home [] old ∷ [];
  templates = one_more a at old i;
}

pub function_defined : {E : Type 0} (r : Result Mode E) (h : Holding) (at left : ℕ) (home f : Ref) (t : ℕ) (part : FunctionPart) (v : Value Ref MadeSymbol) (k : Key MadeSymbol) (d : PartialDescriptor Ref MadeSymbol) (old mid new : View) → plain_key v ≡ Some k → f ≡ next_own old
    → mid ≡ with_function t (function_prototype old) (Some home) [] old → d ≡ function_fields part h.enumerable f
    → IfOk r (LeadsTo (Defines h at left home k d mid) mid new) → IfOk r (LeadsTo (λ a. function_then (naming_of old.me) a.shared old.code h at left home t part v (party_of a old)) old new)
function_defined r h at left home f t part v k d old mid new e n q s w =
    let made = with_function t (function_prototype old) (Some home) [] old in
    let field : d ≡ function_fields part h.enumerable (next_own old) = s ∙ ap (λ x. function_fields part h.enumerable x) n in
    led_moved r (Defines h at left home k d) (λ a. function_then (naming_of old.me) a.shared old.code h at left home t part v (party_of a old)) old mid new made.objects made.templates q
    (λ a. (let b = fitting old a in
    let names = naming_of old.me in
    let go = parts_go names b.shared old.code h (suc at) left in
    key_known names b.shared v k (party_of b old)
    (λ name m. defines names b.shared home name (function_fields part h.enumerable (next_object names b.shared m)) (method_made names b.shared (template_at old.code (term_at old.code) t) (Some home) m) go) e
    ∙ (λ j. defines names b.shared home k (sym field j) (sym (method_is t (Some home) old a) j) go)
    ∙ ap (λ x. Defines h at left home k d x b) (sym q)))
    w

-- ITEMS

pub item_added : {E : Type 0} (r : Result Mode E) (h : Holding) (at left : ℕ) (v : Value Ref MadeSymbol) (old mid new : View) → HasOtherObjects old mid → HasItem h.instance v old mid → IfOk r (LeadsTo (Goes h (suc at) left mid) mid new)
    → IfOk r (LeadsTo (λ a. parts_go (naming_of old.me) a.shared old.code h (suc at) left (adds_item (naming_of old.me) a.shared h.instance v (party_of a old))) old new)
item_added r h at left v old mid new q g w =
    led_moved r (Goes h (suc at) left) (λ a. parts_go (naming_of old.me) a.shared old.code h (suc at) left (adds_item (naming_of old.me) a.shared h.instance v (party_of a old))) old mid new mid.objects old.templates q
    (λ a. (let b = fitting old a in
    ap (λ p. parts_go (naming_of old.me) b.shared old.code h (suc at) left p) (sym (g a)) ∙ ap (λ (x : View). parts_go (naming_of x.me) b.shared x.code h (suc at) left (party_of b mid)) (sym q)))
    w

-- SPREADS

pub helper_is : (o r : Ref) (i : ℕ) (b : Bool) (old : View) → (naming_of old.me).origin o ≡ Own i → b ≡ is_array (object_at old.objects i) → r ≡ spread_helper b → r ≡ helper_into old o
helper_is o r i b old e s h = h ∙ ap spread_helper s ∙ ap (λ q. spread_helper (is_array (object_of common_ref old.objects old.common q))) (sym e)

pub spread_waits : {E : Type 0} (r : Result Mode E) (h : Holding) (at next left : ℕ) (v : Value Ref MadeSymbol) (helper : Ref) (args : List (Value Ref MadeSymbol)) (old mid new : View) → next ≡ suc at → helper ≡ helper_into old h.instance → args ≡ value.Ref h.instance ∷ v ∷ [] → mid ≡ with_held h old
    → IfOk r (WaitsFor (frame.Parts h.enumerable next left) helper (ask.Call value.Undefined args) mid new) → IfOk r (LeadsTo (λ a. spread_then (naming_of old.me) a.shared old.code h at left v (party_of a old)) old new)
unfolding next_part_of
spread_waits (Ok m) h at next left v helper args old mid new n e s q w =
    let x = subst (λ y. WaitsFor (frame.Parts h.enumerable next left) helper (ask.Call value.Undefined args) y new m) q w in
    let y = subst (λ i. WaitsFor (frame.Parts h.enumerable i left) helper (ask.Call value.Undefined args) (with_held h old) new m) n x in
    let z = subst (λ o. WaitsFor (frame.Parts h.enumerable (suc at) left) o (ask.Call value.Undefined args) (with_held h old) new m) e y in
    let u = subst (λ vs. WaitsFor (frame.Parts h.enumerable (suc at) left) (helper_into old h.instance) (ask.Call value.Undefined vs) (with_held h old) new m) s z in
    record { leads = λ a. u.leads a; keeps = u.keeps }
spread_waits (Err x) h at next left v helper args old mid new n e s q w = tt

-- FRAMES

abbrev Comes : Holding → (at left : ℕ) → PartRow → Value Ref MadeSymbol → View → Deed
Comes h at left row v w = λ a. part_comes (naming_of w.me) a.shared w.code h at left row v (party_of a w)

pub row_comes : {E : Type 0} (r : Result Mode E) (h : Holding) (at left : ℕ) (row : PartRow) (v : Value Ref MadeSymbol) (old new : View) → row ≡ part_at old.code at → IfOk r (LeadsTo (Comes h at left row v old) old new) → IfOk r (LeadsTo (Comes h at left (part_at old.code at) v old) old new)
row_comes r h at left row v old new e w = subst (λ x. IfOk r (LeadsTo (Comes h at left x v old) old new)) e w

pub at_home : {E : Type 0} (r : Result Mode E) (h : Holding) (at left : ℕ) (home other : Ref) (t : ℕ) (part : FunctionPart) (v : Value Ref MadeSymbol) (old new : View) → home ≡ other
    → IfOk r (LeadsTo (λ a. function_then (naming_of old.me) a.shared old.code h at left home t part v (party_of a old)) old new)
    → IfOk r (LeadsTo (λ a. function_then (naming_of old.me) a.shared old.code h at left other t part v (party_of a old)) old new)
at_home r h at left home other t part v old new e w = subst (λ o. IfOk r (LeadsTo (λ a. function_then (naming_of old.me) a.shared old.code h at left o t part v (party_of a old)) old new)) e w

pub object_defines : {E : Type 0} (r : Result Mode E) (start count : ℕ) (o : Option Ref) (v : Value Ref MadeSymbol) (f : Ref) (old new : View) → o ≡ object_of_value v → o ≡ Some f
    → IfOk r (LeadsTo (Goes (record { instance = f; constructor = f; enumerable = true }) start count old) old new)
    → IfOk r (LeadsTo (λ a. define_on (naming_of old.me) a.shared (parts_of old.code (term_at old.code) start count) v (party_of a old)) old new)
object_defines (Ok m) start count o v f old new e s w =
    let x : LeadsTo (λ a. define_on (naming_of old.me) a.shared (parts_of old.code (term_at old.code) start count) (value.Ref f) (party_of a old)) old new m = record { leads = λ a. w.leads a; keeps = w.keeps } in
    subst (λ y. LeadsTo (λ a. define_on (naming_of old.me) a.shared (parts_of old.code (term_at old.code) start count) y (party_of a old)) old new m) (sym (is_object v f (sym e ∙ s))) x
object_defines (Err x) start count o v f old new e s w = tt

pub other_defines : {E : Type 0} (r : Result Mode E) (start count : ℕ) (o : Option Ref) (v : Value Ref MadeSymbol) (old new : View) → o ≡ object_of_value v → o ≡ None
    → IfOk r (LeadsTo (λ a. faults (naming_of old.me) fault.NotAnObject (party_of a old)) old new)
    → IfOk r (LeadsTo (λ a. define_on (naming_of old.me) a.shared (parts_of old.code (term_at old.code) start count) v (party_of a old)) old new)
other_defines r start count o (value.Ref f) old new e s w = cc
other_defines r start count o v old new e s w = w

pub part_frame : {E : Type 0} (r : Result Mode E) (e : Bool) (at left : ℕ) (h : Holding) (v : Value Ref MadeSymbol) (old mid new : View) → h ≡ holding_on e old.values → mid ≡ record old { values = drop 2 old.values }
    → IfOk r (LeadsTo (Comes h at left (part_at mid.code at) v mid) mid new) → IfOk r (LeadsTo (deed_with (frame.Part e at left) v old) (under (frame.Part e at left) old) new)
unfolding next_part_of
part_frame (Ok m) e at left h v old mid new s q w =
    let x = subst (λ (y : View). LeadsTo (Comes h at left (part_at y.code at) v y) y new m) q w in
    let z = subst (λ y. LeadsTo (Comes y at left (part_at old.code at) v (record old { values = drop 2 old.values })) (record old { values = drop 2 old.values }) new m) s x in
    record { leads = λ a. z.leads a; keeps = z.keeps }
part_frame (Err x) e at left h v old mid new s q w = tt

three : (vs : Values) → drop 2 (below vs) ≡ drop 3 vs
three [] = refl
three (v ∷ vs) = refl

pub value_frame : {E : Type 0} (r : Result Mode E) (e : Bool) (at left : ℕ) (h : Holding) (k v : Value Ref MadeSymbol) (old mid more new : View) → k ≡ top old.values → mid ≡ record old { values = below old.values } → h ≡ holding_on e mid.values → more ≡ record mid { values = drop 2 mid.values }
    → IfOk r (LeadsTo (λ a. part_valued (naming_of more.me) a.shared more.code h at left k v (party_of a more)) more new) → IfOk r (LeadsTo (deed_with (frame.PartValue e at left) v old) (under (frame.PartValue e at left) old) new)
unfolding next_part_of
value_frame (Ok m) e at left h k v old mid more new t q s u w =
    let rest = record old { values = drop 3 old.values } in
    let last : more ≡ rest = u ∙ (λ j. record (q j) { values = drop 2 (q j).values }) ∙ ap (λ vs. record old { values = vs }) (three old.values) in
    let x = subst (λ (y : View). LeadsTo (λ a. part_valued (naming_of y.me) a.shared y.code h at left k v (party_of a y)) y new m) last w in
    let y = subst (λ i. LeadsTo (λ a. part_valued (naming_of old.me) a.shared old.code i at left k v (party_of a rest)) rest new m) (s ∙ ap (λ (z : View). holding_on e z.values) q) x in
    let z = subst (λ i. LeadsTo (λ a. part_valued (naming_of old.me) a.shared old.code (holding_on e (below old.values)) at left i v (party_of a rest)) rest new m) t y in
    record { leads = λ a. z.leads a; keeps = z.keeps }
value_frame (Err x) e at left h k v old mid more new t q s u w = tt

pub parts_frame : {E : Type 0} (r : Result Mode E) (e : Bool) (start count : ℕ) (h : Holding) (v : Value Ref MadeSymbol) (old mid new : View) → h ≡ holding_on e old.values → mid ≡ record old { values = drop 2 old.values }
    → IfOk r (LeadsTo (Goes h start count mid) mid new) → IfOk r (LeadsTo (deed_with (frame.Parts e start count) v old) (under (frame.Parts e start count) old) new)
unfolding next_part_of
parts_frame (Ok m) e start count h v old mid new s q w =
    let x = subst (λ (y : View). LeadsTo (Goes h start count y) y new m) q w in
    let z = subst (λ y. LeadsTo (Goes y start count (record old { values = drop 2 old.values })) (record old { values = drop 2 old.values }) new m) s x in
    record { leads = λ a. z.leads a; keeps = z.keeps }
parts_frame (Err x) e start count h v old mid new s q w = tt
