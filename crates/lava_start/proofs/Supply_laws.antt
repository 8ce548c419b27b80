-- What the steps of a supply come to.
use Rattle.std.proofs.Common.{◌≡◌, ℕ, suc, ◌+◌, ◌<◌, List, [], ◌∷◌, ◌++◌, Bool, length, map, None, Some, Result, Ok, Err, OnOk, refl, sym, ap, ◌∙◌, subst, append_assoc, append-nil, length-append, arith}
use Rattle.std.proofs.Math.ListN.{set}
use Rattle.std.proofs.Math.Seq.{get_or-append_seam}
use Rattle.lava_base.specs.declared.ids.MadeSymbol.{MadeSymbol}
use Rattle.lava_base.specs.declared.ids.Ref.{Ref}
use Rattle.js_text.specs.Naming.{naming_of}
use Rattle.js_text.specs.declared.value.Key.{Key}
use Rattle.js_desc.specs.declared.descriptor.Descriptor.{Descriptor}
use Rattle.js_store.specs.Frozen.{common_ref}
use Rattle.js_store.specs.Objects.{at_place, fresh, not_extensible, object_at, plain_marks}
use Rattle.js_store.specs.declared.slot.Slot.TheVariants as slot
use Rattle.js_world.specs.js_run.Starts.{package_global}
use Rattle.js_world.specs.js_run.declared.intrinsics.TheConstants.{OBJECT_PROTOTYPE}
use Rattle.lava_start.specs.Grants.{Granted, Supply, builtin_objects, part_member, builtin_value, global_supply, granted_global, live_part_objects, member_supply, package_builtin, package_objects, supplied_objects, supplied_properties, with_all_properties, with_keyed, with_part_members, with_supplies, with_supply}
use Rattle.lava_start.specs.Making.{Thing}
use Rattle.lava_start.proofs.Made_laws.{at_same, at_twice, length_at}

set_middle : (front : List Thing) (o y : Thing) (back : List Thing) → set (front ++ o ∷ back) (length front) y ≡ front ++ y ∷ back
set_middle [] o y back = refl
set_middle (z ∷ zs) o y back = ap (λ t. z ∷ t) (set_middle zs o y back)

-- a change of one of several objects
pub at_middle : (front : List Thing) (o : Thing) (back : List Thing) (f : Thing → Thing) → at_place (front ++ o ∷ back) (length front) f ≡ front ++ f o ∷ back
at_middle front o back f =
    set_middle front o (f (object_at (front ++ o ∷ back) (length front))) back
    ∙ ap (λ q. front ++ f q ∷ back) (get_or-append_seam front o back (fresh None plain_marks slot.Plain))

module _ {X : Type 0} (s : Supply X) where
  one_supply : (front : List Thing) (o : Thing) (back : List Thing) (x : X) (n : ℕ) → length (front ++ o ∷ back) ≡ n
      → with_supply s (length front) x (front ++ o ∷ back) ≡ front ++ with_keyed (s.key x) (s.property n x) o ∷ (back ++ s.objects n x)
  one_supply front o back x n e =
      (λ j. at_place ((front ++ o ∷ back) ++ s.objects (e j) x) (length front) (with_keyed (s.key x) (s.property (e j) x)))
      ∙ ap (λ os. at_place os (length front) (with_keyed (s.key x) (s.property n x))) (append_assoc front (o ∷ back) (s.objects n x))
      ∙ at_middle front o (back ++ s.objects n x) (with_keyed (s.key x) (s.property n x))

  longer : (front : List Thing) (o u : Thing) (back made : List Thing) (n : ℕ) → length (front ++ o ∷ back) ≡ n → length (front ++ u ∷ (back ++ made)) ≡ n + length made
  longer front o u back made n e =
      let a = length-append front (u ∷ (back ++ made)) in
      let b = length-append back made in
      let d = length-append front (o ∷ back) in
      omega (arith, a, b, d, e)

  -- the objects of all items stand at the end, in their order, and the one object has their properties
  pub all_supplies : (front : List Thing) (o : Thing) (back : List Thing) (xs : List X) (n : ℕ) → length (front ++ o ∷ back) ≡ n
      → with_supplies s (length front) xs (front ++ o ∷ back) ≡ front ++ with_all_properties (supplied_properties s n xs) o ∷ (back ++ supplied_objects s n xs)
  all_supplies front o back [] n e = ap (λ t. front ++ o ∷ t) (sym (append-nil back))
  all_supplies front o back (x ∷ xs) n e =
      let made = s.objects n x in
      let u : Thing = with_keyed (s.key x) (s.property n x) o in
      ap (with_supplies s (length front) xs) (one_supply front o back x n e)
      ∙ all_supplies front u (back ++ made) xs (n + length made) (longer front o u back made n e)
      ∙ ap (λ t. front ++ with_all_properties (supplied_properties s n (x ∷ xs)) o ∷ t) (append_assoc back made (supplied_objects s (n + length made) xs))

-- an object that is being made
abbrev pub bare_object : Thing
bare_object = fresh (Some (common_ref OBJECT_PROTOTYPE)) plain_marks slot.Plain

one_more : (os : List Thing) (o : Thing) → length (os ++ o ∷ []) ≡ suc (length os)
one_more os o = let n = length-append os (o ∷ []) in omega (arith, n)

-- an object with live members of a global
pub live_part_made : (p : ℕ) (name : List ℕ) (ms : List (List ℕ × Bool)) (os a b c : List Thing) (at : ℕ) → at ≡ length os → a ≡ os ++ bare_object ∷ [] → b ≡ with_supplies (member_supply p name) at ms a → c ≡ at_place b at not_extensible
    → c ≡ os ++ live_part_objects p (length os) name ms
live_part_made p name ms os a b c at place first next last =
    let s = member_supply p name in
    let n : ℕ = suc (length os) in
    let o : Thing = with_all_properties (supplied_properties s n ms) bare_object in
    let more = supplied_objects s n ms in
    let so : b ≡ os ++ o ∷ more = next ∙ (λ j. with_supplies s (place j) ms (first j)) ∙ all_supplies s os bare_object [] ms n (one_more os bare_object) in
    last ∙ (λ j. at_place (so j) (place j) not_extensible) ∙ at_middle os o more not_extensible

-- THE PACKAGE

-- the global with what it is given, and what is made for it
pub globals_made : (p : ℕ) (gs : Granted) (a b : List Thing) → a ≡ package_global (naming_of p) [] ∷ [] → b ≡ with_supplies (global_supply p) 0 gs a → b ≡ granted_global p gs ∷ supplied_objects (global_supply p) 1 gs
globals_made p gs a b first next = next ∙ ap (with_supplies (global_supply p) 0 gs) first ∙ all_supplies (global_supply p) [] (package_global (naming_of p) []) [] gs 1 refl

-- and what `require` of a part of the host makes
pub builtin_made : (p : ℕ) (gs bs : Granted) (a b : List Thing) → a ≡ granted_global p gs ∷ supplied_objects (global_supply p) 1 gs → b ≡ a ++ builtin_objects bs → b ≡ package_objects p gs bs
builtin_made p gs bs a b first next = next ∙ ap (λ t. t ++ builtin_objects bs) first

pub builtin_given : (p : ℕ) (gs bs : Granted) (a : List Thing) → a ≡ granted_global p gs ∷ supplied_objects (global_supply p) 1 gs → builtin_value p (length a) bs ≡ package_builtin p gs bs
builtin_given p gs bs a first = ap (λ t. builtin_value p (length t) bs) first

-- A CALL AT THE END

-- a property is written once all else is made
pub applied : {E : Type 0} (r : Result Unit E) (a b os made : List Thing) (at : ℕ) (k key : Key MadeSymbol) (d e : Descriptor Ref MadeSymbol) → a ≡ os ++ made → k ≡ key → d ≡ e → OnOk r (b ≡ at_place a at (with_keyed k d)) → OnOk r (b ≡ at_place (os ++ made) at (with_keyed key e))
applied (Ok x) a b os made at k key d e p q s h = h ∙ (λ j. at_place (p j) at (with_keyed (q j) (s j)))
applied (Err x) a b os made at k key d e p q s h = h

-- LOOPS

-- what stood there still does
pub inside_still : {X : Type 0} (s : Supply X) (x : X) (os new : List Thing) (at : ℕ) → at < length os → new ≡ with_supply s at x os → at < length new
inside_still s x os new at lt e =
    let made = s.objects (length os) x in
    let n : length new ≡ length os + length made = ap length e ∙ length_at (os ++ made) at (with_keyed (s.key x) (s.property (length os) x)) ∙ length-append os made in
    omega (arith, n, lt)

-- all members at once
pub members_at_once : (at : ℕ) (ms : List (List ℕ × ℕ)) (os : List Thing) → at < length os → with_part_members at ms os ≡ at_place os at (with_all_properties (map part_member ms))
members_at_once at [] os lt = sym (at_same os at)
members_at_once at (m ∷ ms) os lt =
    let f = with_all_properties (part_member m ∷ []) in
    let n : length (at_place os at f) ≡ length os = length_at os at f in
    members_at_once at ms (at_place os at f) (omega (arith, n, lt)) ∙ at_twice os at f (with_all_properties (map part_member ms)) lt

all_inside : {X : Type 0} (s : Supply X) (xs : List X) (os : List Thing) (at : ℕ) → at < length os → at < length (with_supplies s at xs os)
all_inside s [] os at lt = lt
all_inside s (x ∷ xs) os at lt = all_inside s xs (with_supply s at x os) at (inside_still s x os (with_supply s at x os) at lt refl)

pub inside_after : {X : Type 0} (s : Supply X) (xs : List X) (os new : List Thing) (at : ℕ) → at < length os → new ≡ with_supplies s at xs os → at < length new
inside_after s xs os new at lt e = subst (λ (ns : List Thing). at < length ns) (sym e) (all_inside s xs os at lt)

pub inside_change : (xs new : List Thing) (at : ℕ) (f : Thing → Thing) → at < length xs → new ≡ at_place xs at f → at < length new
inside_change xs new at f lt e = let n : length new ≡ length xs = ap length e ∙ length_at xs at f in omega (arith, n, lt)
