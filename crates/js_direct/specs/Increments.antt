-- Bodies like that of `x++`: the number of a slot is kept, the slot gets what an operator makes of it, and the kept one is given.
use Rattle.std.specs.Prelude.{◌≡◌, ℕ, ℤ, Bool, List, Some, is_some}
use Rattle.lava_base.specs.declared.ids.MadeSymbol.{MadeSymbol}
use Rattle.lava_base.specs.declared.ids.Ref.{Ref}
use Rattle.js_text.specs.declared.value.Value.TheVariants as value
use Rattle.js_tree.specs.declared.operator.BinaryOperator.{BinaryOperator}
use Rattle.js_tree.specs.declared.operator.UnaryOperator.TheVariants.{Plus}
use Rattle.js_term.specs.declared.term.Term.{out-Term}
use Rattle.js_code.specs.Decoded.{layer_of, term_at}
use Rattle.js_code.specs.Tables.{Tables}
use Rattle.js_code.specs.declared.node.Node.{Node}
use Rattle.js_code.specs.declared.node.Node.TheVariants as node
use Rattle.js_store.specs.Frozen.{CommonObject}
use Rattle.js_state.specs.Scopes.{Scope, outwards, slot_of, with_slot}
use Rattle.js_direct.specs.Direct.{Sight}
use Rattle.js_direct.specs.Done.{DoesAtOnce}
use Rattle.js_direct.specs.declared.increments.Incremented.{Incremented}
use Rattle.js_direct.specs.declared.increments.Incremented.TheVariants as came

-- the form at a place has this row
abbrev pub HasRow : Tables → (at : ℕ) → Node → Type 0
HasRow t at n = out-Term (term_at t at) ≡ layer_of t (term_at t) n

-- a form keeps the number of a slot in the first slot of the scope
pub record KeepsNumber (t : Tables) (at hops slot : ℕ) : Type 0 where
  pub from : ℕ
  pub operand : ℕ
  pub keeps : HasRow t at (node.Init 0 0 from)
  pub plus : HasRow t from (node.Unary Plus operand)
  pub local : HasRow t operand (node.Local hops slot)

-- a form gives a slot what an operator makes of the number that was kept, with another one behind it
pub record ChangesNumber (t : Tables) (at hops slot : ℕ) (o : BinaryOperator) (amount : ℤ) : Type 0 where
  pub from : ℕ
  pub left : ℕ
  pub right : ℕ
  pub sets : HasRow t at (node.SetLocal hops slot Bool.false from)
  pub makes : HasRow t from (node.Binary o left right)
  pub kept : HasRow t left (node.Local 0 0)
  pub behind : HasRow t right (node.Int amount)

-- the slots are written, and the kept number is read again
pub record WritesBoth (old new : List (Scope Ref MadeSymbol)) (scope hops slot : ℕ) (n m g : ℤ) : Type 0 where
  pub between : List (Scope Ref MadeSymbol)
  pub keeps : between ≡ with_slot old scope 0 (value.Int n)
  pub kept : slot_of between scope 0 ≡ Some (value.Int n)
  pub there : is_some (slot_of between (outwards between hops scope) slot) ≡ Bool.true
  pub sets : new ≡ with_slot between (outwards between hops scope) slot (value.Int m)
  pub given : slot_of new scope 0 ≡ Some (value.Int g)

abbrev pub IsIncremented : Incremented → (old new : List (Scope Ref MadeSymbol)) → (scope hops slot : ℕ) → (n m : ℤ) → Type 0
IsIncremented (came.Gave g) old new scope hops slot n m = WritesBoth old new scope hops slot n m g
IsIncremented came.Nothing old new scope hops slot n m = new ≡ old
IsIncremented came.Failed old new scope hops slot n m = Unit

-- by what came of a body: it was done at once, nothing was done, or nothing is said
abbrev pub CameOfBody : Incremented → (s : Sight) → (at : ℕ) → (scopes : List (Scope Ref MadeSymbol)) → Type 0
CameOfBody (came.Gave n) s at scopes = (common : List CommonObject) → DoesAtOnce s common at (value.Int n) s.objects scopes 9
CameOfBody came.Nothing s at scopes = scopes ≡ s.scopes
CameOfBody came.Failed s at scopes = Unit
