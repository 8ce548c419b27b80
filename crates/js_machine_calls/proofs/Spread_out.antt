-- The items of arrays, which come on the stack of values.
use Rattle.std.proofs.Common.{◌≡◌, ℕ, zero, suc, ◌+◌, Bool, true, false, List, [], ◌∷◌, ◌++◌, length, nat_lt, drop, reverse, Option, Some, None, refl, sym, ap, ◌∙◌, subst, arith, drop-drop, Result, Ok, Err, IfOk, OnOk, if◌then◌else◌}
use Rattle.std.specs.Option.{option_map}
use Rattle.std.proofs.lemmas.Bool.{ltb-false}
use Rattle.std.proofs.lemmas.List.{get_or_past, length-reverse, reverse-append, reverse-reverse}
use Rattle.lava_base.specs.declared.ids.MadeSymbol.{MadeSymbol}
use Rattle.lava_base.specs.declared.ids.Ref.{Ref}
use Rattle.js_text.specs.Naming.{Naming, Origin, Own, Common, Foreign, naming_of}
use Rattle.js_text.specs.declared.value.Key.TheVariants as key
use Rattle.js_text.specs.declared.value.Value.{Value}
use Rattle.js_text.specs.declared.value.Value.TheVariants as value
use Rattle.js_ordinary.specs.Origins.{object_of, there}
use Rattle.js_ordinary.specs.Targets.{object_seen, origin_of_target}
use Rattle.js_ordinary.specs.declared.target.Target.{Target}
use Rattle.js_store.specs.Frozen.{CommonObject, as_read, common_ref}
use Rattle.js_store.specs.Objects.{Object, fresh, object_at, plain_marks}
use Rattle.js_store.specs.declared.slot.Slot.TheVariants as slot
use Rattle.js_machine.specs.js_run.Control.{listed}
use Rattle.js_machine.specs.js_run.Functions.{items_from, items_of, own_data}
use Rattle.js_machine.specs.Decisions.{object_of_value}
use Rattle.js_machine.specs.Spreads.{items_in}
use Rattle.js_machine.specs.Steps.{LeadsTo}
use Rattle.js_machine.specs.Views.{Around, Values, View, applied, args_on, fitting, held, party_of}
use Rattle.js_machine.specs.Ways.{object_in}
use Rattle.js_machine.specs.declared.frame.Mode.{Mode}
use Rattle.js_machine.specs.declared.frame.Purpose.{Purpose}
use Rattle.js_machine.proofs.Called_laws.{Applies}
use Rattle.js_machine.proofs.Closed.{drop_front, take_front}
use Rattle.js_machine.proofs.Followed.{is_object}
use Rattle.js_machine.proofs.Referenced.{same_deed}
use Rattle.js_machine.proofs.Ways_laws.{seen_there}

abbrev V : Type 0
V = Value Ref MadeSymbol

abbrev O : Type 0
O = Object Ref MadeSymbol

-- ITEMS

module _ (names : Naming Ref MadeSymbol) (o : O) where
  -- one item more
  item_more : (at n i : ℕ) → at + n ≡ i → items_from names o at (suc n) ≡ items_from names o at n ++ own_data names o (key.Index i) ∷ []
  item_more at zero i e = let same : at ≡ i = omega (arith, e) in ap (λ k. own_data names o (key.Index k) ∷ []) same
  item_more at (suc n) i e = ap (λ vs. own_data names o (key.Index at) ∷ vs) (item_more (suc at) n i (omega (arith, e)))

  -- there are as many as are read
  pub as_many : (at n : ℕ) → length (items_from names o at n) ≡ n
  as_many at zero = refl
  as_many at (suc n) = ap suc (as_many (suc at) n)

pub item_pushed : (o o' : O) (i : ℕ) (v : V) (old mid new : View) → mid ≡ record old { values = reverse (items_from (naming_of old.me) o 0 i) ++ old.values } → o' ≡ o → v ≡ own_data (naming_of mid.me) o' (key.Index i) → new ≡ record mid { values = v ∷ mid.values }
    → new ≡ record old { values = reverse (items_from (naming_of old.me) o 0 (i + 1)) ++ old.values }
item_pushed o o' i v old mid new e s t d =
    let names = naming_of old.me in
    let item = own_data names o (key.Index i) in
    let there : v ≡ item = t ∙ (λ j. own_data (naming_of (e j).me) (s j) (key.Index i)) in
    let one : suc i ≡ i + 1 = omega arith in
    let next : item ∷ reverse (items_from names o 0 i) ≡ reverse (items_from names o 0 (i + 1)) =
    sym (reverse-append (items_from names o 0 i) (item ∷ [])) ∙ ap (λ xs. reverse xs) (sym (item_more names o 0 i i (omega arith))) ∙ ap (λ n. reverse (items_from names o 0 n)) one in
    d ∙ (λ j. record (e j) { values = there j ∷ (e j).values }) ∙ ap (λ xs. record old { values = xs ++ old.values }) next

-- AN OBJECT THAT IS NOWHERE HAS NONE

module _ (os : List O) (cs : List CommonObject) where
  past_own : (b : Bool) (i : ℕ) → nat_lt i (length os) ≡ b → (if b then Some (Own i) else None) ≡ None → object_at os i ≡ fresh None plain_marks slot.Plain
  past_own true i l e = cc
  past_own false i l e = get_or_past os i (fresh None plain_marks slot.Plain) (ltb-false _ _ l)

  past_common : (b : Bool) (c : ℕ) → nat_lt c (length cs) ≡ b → (if b then Some (Common c) else None) ≡ None → as_read {S = MadeSymbol} common_ref (object_at cs c) ≡ fresh None plain_marks slot.Plain
  past_common true c l e = cc
  past_common false c l e = ap (λ (o : CommonObject). as_read {S = MadeSymbol} common_ref o) (get_or_past cs c (fresh None plain_marks slot.Plain) (ltb-false _ _ l))

  nowhere : (p : Origin) → there os cs p ≡ None → object_of common_ref os cs p ≡ fresh None plain_marks slot.Plain
  nowhere (Own i) e = past_own (nat_lt i (length os)) i refl e
  nowhere (Common c) e = past_common (nat_lt c (length cs)) c refl e
  nowhere Foreign e = refl

no_items : (names : Naming Ref MadeSymbol) (os : List O) (cs : List CommonObject) (p : Origin) (t : Option Target) → option_map origin_of_target t ≡ there os cs p → t ≡ None → items_of names (object_of common_ref os cs p) ≡ []
no_items names os cs p t e f = ap (items_of names) (nowhere os cs p (sym e ∙ ap (option_map origin_of_target) f))

-- what is found of an object
abbrev Found : View → Ref → Option Target → Type 0
Found w r t = option_map origin_of_target t ≡ there w.objects w.common ((naming_of w.me).origin r)

abbrev seen_in : View → Target → O
seen_in w t = object_seen w.objects w.common t

pub none_seen : (w : View) (r : Ref) (t : Option Target) → Found w r t → t ≡ None → [] ≡ items_of (naming_of w.me) (object_in w r)
none_seen w r t e f = sym (no_items (naming_of w.me) w.objects w.common ((naming_of w.me).origin r) t e f)

same_items : (w : View) (r : Ref) (o : Option Target) (t : Target) → Found w r o → o ≡ Some t → items_of (naming_of w.me) (seen_in w t) ≡ items_of (naming_of w.me) (object_in w r)
same_items w r o t e f = ap (items_of (naming_of w.me)) (seen_there w.objects w.common t o ((naming_of w.me).origin r) e f)

-- so many items are there, and on the stack
abbrev Counts : {E : Type 0} → Result ℕ E → Values → Type 0
Counts r xs = IfOk r (λ n. n ≡ length xs)

abbrev Pushes : {E : Type 0} → Result ℕ E → View → View → Values → Type 0
Pushes r old new xs = OnOk r (new ≡ record old { values = reverse xs ++ old.values })

pub seen_count : {E : Type 0} (r : Result ℕ E) (w : View) (o : Ref) (x : Option Target) (t : Target) → Found w o x → x ≡ Some t → Counts r (items_of (naming_of w.me) (seen_in w t)) → Counts r (items_of (naming_of w.me) (object_in w o))
seen_count r w o x t e f h = subst (λ xs. Counts r xs) (same_items w o x t e f) h

pub seen_pushed : {E : Type 0} (r : Result ℕ E) (w new : View) (o : Ref) (x : Option Target) (t : Target) → Found w o x → x ≡ Some t → Pushes r w new (items_of (naming_of w.me) (seen_in w t)) → Pushes r w new (items_of (naming_of w.me) (object_in w o))
seen_pushed r w new o x t e f h = subst (λ xs. Pushes r w new xs) (same_items w o x t e f) h

-- THE ITEMS OF A VALUE

of_object : (w : View) (v : V) (r : Ref) (o : Option Ref) → o ≡ object_of_value v → o ≡ Some r → items_of (naming_of w.me) (object_in w r) ≡ items_in w v
of_object w v r o e f = ap (items_in w) (sym (is_object v r (sym e ∙ f)))

pub of_other : (w : View) (v : V) (o : Option Ref) → o ≡ object_of_value v → o ≡ None → [] ≡ items_in w v
of_other w (value.Ref r) o e f = cc
of_other w v o e f = refl

pub object_count : {E : Type 0} (r : Result ℕ E) (w : View) (v : V) (o : Ref) (x : Option Ref) → x ≡ object_of_value v → x ≡ Some o → Counts r (items_of (naming_of w.me) (object_in w o)) → Counts r (items_in w v)
object_count r w v o x e f h = subst (λ xs. Counts r xs) (of_object w v o x e f) h

pub object_pushed : {E : Type 0} (r : Result ℕ E) (w new : View) (v : V) (o : Ref) (x : Option Ref) → x ≡ object_of_value v → x ≡ Some o → Pushes r w new (items_of (naming_of w.me) (object_in w o)) → Pushes r w new (items_in w v)
object_pushed r w new v o x e f h = subst (λ xs. Pushes r w new xs) (of_object w v o x e f) h

listed_here : (w : View) (a : Around) (v : V) → listed (naming_of w.me) (fitting w a).shared v (party_of (fitting w a) w) ≡ items_in w v
listed_here w a (value.Ref r) = refl
listed_here w a v = refl

-- WHAT ARGUMENTS ARE FOR

pub spread_applied : {E : Type 0} (r : Result Mode E) (k : Purpose) (n : ℕ) (list : V) (old mid new : View) → n ≡ length (items_in old list) → mid ≡ record old { values = reverse (items_in old list) ++ old.values } → IfOk r (Applies k n mid new)
    → IfOk r (LeadsTo (λ a. applied (naming_of old.me) a.shared k old.values (listed (naming_of old.me) a.shared list (party_of a old)) (party_of a old)) (record old { values = drop (held k) old.values }) new)
spread_applied (Ok m) k n list old mid new c e h =
    let items = items_in old list in
    let rest = record old { values = drop (held k) old.values } in
    let top = reverse items ++ old.values in
    let count : n ≡ length (reverse items) = c ∙ sym (length-reverse items) in
    let args : args_on n top ≡ items = ap (λ xs. reverse xs) (take_front n (reverse items) old.values count) ∙ reverse-reverse items in
    let low : drop n top ≡ old.values = drop_front n (reverse items) old.values count in
    let less : drop (n + held k) top ≡ drop (held k) old.values = sym (drop-drop (held k) n top) ∙ ap (drop (held k)) low in
    let w = subst (λ (x : View). Applies k n x new m) e h in
    let w = subst (λ vs. LeadsTo (λ a. applied (naming_of old.me) a.shared k (drop n top) (args_on n top) (party_of a old)) (record old { values = vs }) new m) less w in
    let w = subst (λ vs. LeadsTo (λ a. applied (naming_of old.me) a.shared k vs (args_on n top) (party_of a old)) rest new m) low w in
    let w = subst (λ xs. LeadsTo (λ a. applied (naming_of old.me) a.shared k old.values xs (party_of a old)) rest new m) args w in
    same_deed {E = ℕ} (Ok m) (λ a. applied (naming_of old.me) a.shared k old.values items (party_of a old)) (λ a. applied (naming_of old.me) a.shared k old.values (listed (naming_of old.me) a.shared list (party_of a old)) (party_of a old)) rest new
    (λ a. ap (λ xs. applied (naming_of old.me) (fitting old a).shared k old.values xs (party_of (fitting old a) old)) (listed_here old a list)) w
spread_applied (Err x) k n list old mid new c e h = tt
