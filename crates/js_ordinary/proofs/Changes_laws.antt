-- A decision changes the object that is asked and no other.
use Rattle.std.proofs.Common.{ℕ, Bool, true, false, List, length, Option, Some, None, nat_lt, refl, if◌then◌else◌}
use Rattle.std.proofs.lemmas.List.{length-set, get_or-set_other}
use Rattle.js_text.specs.Naming.{Naming, Origin, Own, Common, Foreign}
use Rattle.js_desc.specs.declared.ask.Ask.{Ask}
use Rattle.js_store.specs.Frozen.{CommonObject}
use Rattle.js_store.specs.Objects.{Object}
use Rattle.js_ordinary.specs.Decided.{decided_there, verdict}
use Rattle.js_ordinary.specs.Laws.{OthersStay, Others_stay}
use Rattle.js_ordinary.specs.OrdinarySetPrototypeOf.{makes_cycle}
use Rattle.js_ordinary.specs.Origins.{there, object_of, with_object}

-- what holds of both ways of an `if` holds of it
pub both : {X : Type 0} (P : X → Type 0) (b : Bool) (x y : X) → P x → P y → P (if b then x else y)
both P true x y p q = p
both P false x y p q = q

module _ {R S : Type 0} (objects : List (Object R S)) where
  same : (o : Origin) → OthersStay o objects objects
  same o = record { count = refl; others = λ i apart. refl }

  one : (i : ℕ) (new : Option (Object R S)) → OthersStay (Own i) objects (with_object objects i new)
  one i None = same (Own i)
  one i (Some o) = record { count = length-set objects i o; others = λ j apart. get_or-set_other objects i j o _ apart }

module _ {R S : Type 0} (names : Naming R S) (objects : List (Object R S)) (common : List CommonObject) (x : Ask R S) where
  stay : (o : Origin) → OthersStay o objects (decided_there names objects common x (there objects common o)).1
  stay (Own i) = both (λ t. OthersStay (Own i) objects (decided_there names objects common x t).1) (nat_lt i (length objects)) (Some (Own i)) None (one objects i (verdict names (makes_cycle names objects (Own i)) (object_of names.common objects common (Own i)) x).1) (same objects (Own i))
  stay (Common c) = both (λ t. OthersStay (Common c) objects (decided_there names objects common x t).1) (nat_lt c (length common)) (Some (Common c)) None (same objects (Common c)) (same objects (Common c))
  stay Foreign = same objects Foreign

pub others_stay : (R S : Type 0) → Others_stay R S
others_stay R S names objects common me x = stay names objects common x (names.origin me)
