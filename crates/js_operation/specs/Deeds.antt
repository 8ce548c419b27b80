-- What of js_run's definitions each operation stands for.
use Rattle.std.specs.Prelude.{◌≡◌, ℕ, Bool, true, false, not, codes, if◌then◌else◌}
use Rattle.lava_base.specs.declared.ids.MadeSymbol.{MadeSymbol}
use Rattle.lava_base.specs.declared.ids.Ref.{Ref}
use Rattle.js_run.specs.js_conversions.Primitives.{ReadsNumbers}
use Rattle.js_text.specs.Naming.{Naming, naming_of}
use Rattle.js_text.specs.declared.value.Key.{Key}
use Rattle.js_text.specs.declared.value.Value.TheVariants as value
use Rattle.js_desc.specs.declared.ask.Ask.TheVariants as ask
use Rattle.js_desc.specs.declared.fault.FaultText.TheVariants as fault
use Rattle.js_tree.specs.declared.operator.BinaryOperator.{BinaryOperator}
use Rattle.js_tree.specs.declared.operator.BinaryOperator.TheVariants as op
use Rattle.js_tree.specs.declared.operator.UnaryOperator.{UnaryOperator}
use Rattle.js_run.specs.Acts.{Act, End, asks, give, with_flag}
use Rattle.js_run.specs.Asking.{see_callable}
use Rattle.js_run.specs.Conversions.{primitive_to_key}
use Rattle.js_run.specs.Faults.{faults}
use Rattle.js_run.specs.Following.{halt_of}
use Rattle.js_run.specs.Operators.{added, given_number, given_text, gives_flag, gives_opposite, has_instance, has_instance_by, number_of, numeric, primitive_is_less, primitives_are_equal, prototype_inherited, to_primitive}
use Rattle.js_run.specs.Parties as parties
use Rattle.js_run.specs.Parties.{Shared}
use Rattle.js_operation.specs.Operating.{MachineValue, takes_numbers, unary_numeric}
use Rattle.js_operation.specs.declared.operation.Look.{Look}
use Rattle.js_operation.specs.declared.operation.Look.TheVariants as look
use Rattle.js_operation.specs.declared.operation.Operation.{Operation}
use Rattle.js_operation.specs.declared.operation.Operation.TheVariants as operation
use Rattle.js_operation.specs.declared.operation.Rest.{Rest}
use Rattle.js_operation.specs.declared.operation.Rest.TheVariants as rest

abbrev pub MachineNaming : Type 0
MachineNaming = Naming Ref MadeSymbol

abbrev pub MachineParty : Type 0
MachineParty = parties.Party Ref MadeSymbol

abbrev pub MachineAct : Type 0
MachineAct = Act Ref MadeSymbol

-- an object becomes a property key
abbrev pub becomes_key : Rest → Bool
becomes_key rest.Key = true
becomes_key _ = false

module _ (names : MachineNaming) (shared : Shared) where
  -- WHAT FOLLOWS WHERE THE OPERANDS ARE NO OBJECTS

  -- ECMA-262 Unary Operators, of those that take a number
  abbrev pub primitive_unary_value : UnaryOperator → MachineValue → MachineParty → MachineAct
  primitive_unary_value o v p = number_of names shared v p (λ n q. give (value.Int (unary_numeric o n)) q)

  -- ECMA-262 ApplyStringOrNumericBinaryOperator, Relational Operators
  abbrev pub primitive_binary_value : BinaryOperator → MachineValue → MachineValue → MachineParty → MachineAct
  primitive_binary_value op.Add v w p = added names shared v w p
  primitive_binary_value op.Less v w p = primitive_is_less names shared v w p (gives_flag names shared)
  primitive_binary_value op.Greater v w p = primitive_is_less names shared w v p (gives_flag names shared)
  primitive_binary_value op.LessOrEqual v w p = primitive_is_less names shared w v p (gives_opposite names shared)
  primitive_binary_value op.GreaterOrEqual v w p = primitive_is_less names shared v w p (gives_opposite names shared)
  primitive_binary_value o v w p = number_of names shared v p (λ a q. number_of names shared w q (λ b m. given_number (numeric o a b) m))

  -- the left operand is no object. It becomes a number, where the operator takes numbers, before the right one is looked at
  abbrev pub left_value : BinaryOperator → MachineValue → MachineValue → MachineParty → MachineAct
  left_value o v w p =
      if takes_numbers o
      then number_of names shared v p (λ n q. to_primitive names shared false w q (primitive_binary_value o (value.Int n)))
      else to_primitive names shared false w p (primitive_binary_value o v)

  -- an answer is given, or its opposite
  abbrev pub gives : (negated : Bool) → Bool → MachineParty → MachineAct
  gives negated b p = give (value.Bool (if negated then not b else b)) p

  abbrev pub asks_key : Ref → Key MadeSymbol → MachineParty → MachineAct
  asks_key r k p = asks names r (ask.HasProperty k) p (with_flag (λ b m. give (value.Bool b) m))

  -- ECMA-262 Relational Operators, of `in`
  abbrev pub has_key_value : MachineValue → MachineValue → MachineParty → MachineAct
  has_key_value (value.Ref r) v p = primitive_to_key names shared (asks names) v p (asks_key r)
  has_key_value _ v p = faults names fault.NotAnObject p

  -- what follows where an object became a primitive value
  abbrev pub rest_deed : Rest → (held : MachineValue) → MachineValue → MachineParty → MachineAct
  rest_deed (rest.Unary o) held v p = primitive_unary_value o v p
  rest_deed (rest.Left o) held v p = left_value o v held p
  rest_deed (rest.Right o) held v p = primitive_binary_value o held v p
  rest_deed (rest.Equal negated) held v p = primitives_are_equal names shared v held p (gives negated)
  rest_deed rest.Key held v p = has_key_value held v p

  -- what follows where it is known whether an object can be called
  abbrev pub look_deed : Look → Ref → (held : MachineValue) → MachineParty → (callable : Bool) → MachineAct
  look_deed look.Typeof r held p callable = give (value.Text (if callable then codes "function" else codes "object")) p
  look_deed look.Instanceof r held p callable = if callable then has_instance names shared held (value.Ref r) p else faults names fault.NotAFunction p

  -- what an operation does
  abbrev pub act_of : Operation → MachineParty → MachineAct
  act_of (operation.Value v) p = give v p
  act_of (operation.Text t) p = given_text t p
  act_of (operation.Fault f) p = faults names f p
  act_of (operation.End e) p = End (halt_of e)
  act_of (operation.Converts r x held) p = to_primitive names shared (becomes_key x) (value.Ref r) p (rest_deed x held)
  act_of (operation.Looks r x held) p = see_callable names shared (value.Ref r) p (look_deed x r held p)
  act_of (operation.HasProperty r k) p = asks_key r k p
  act_of (operation.HasInstance f v) p = has_instance names shared v (value.Ref f) p
  act_of (operation.GetPrototype f o) p = has_instance_by names shared f (value.Ref o) p
  act_of (operation.Inherits o prototype) p = prototype_inherited names shared o (value.Ref prototype) p

-- an operation does this, for each party and whatever all parties share, where texts are read as the numbers that they stand for
pub record Does (deed : MachineNaming → Shared → MachineParty → MachineAct) (o : Operation) : Type 0 where
  pub does : (me : ℕ) (shared : Shared) → ReadsNumbers shared.number_of → (p : MachineParty) → act_of (naming_of me) shared o p ≡ deed (naming_of me) shared p
