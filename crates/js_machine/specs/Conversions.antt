-- How objects become primitive values and property keys, what that is for standing on the stack of values.
use Rattle.std.specs.Prelude.{Bool, List, [], ℕ, Option, Some, None, drop, if◌then◌else◌}
use Rattle.lava_base.specs.declared.ids.MadeSymbol.{MadeSymbol}
use Rattle.lava_base.specs.declared.ids.Ref.{Ref}
use Rattle.js_text.specs.Naming.{naming_of}
use Rattle.js_text.specs.declared.value.Key.{Key}
use Rattle.js_text.specs.declared.value.Value.{Value}
use Rattle.js_text.specs.declared.value.Value.TheVariants as value
use Rattle.js_desc.specs.declared.ask.Ask.TheVariants as ask
use Rattle.js_code.specs.Decoded.{arguments_at, term_at}
use Rattle.js_operation.specs.js_run.Acts.{asks, asks_value, with_value}
use Rattle.js_operation.specs.js_run.Calls.{calls_with}
use Rattle.js_operation.specs.js_run.Conversions.{to_primitive}
use Rattle.js_operation.specs.js_run.Properties.{to_key, with_this}
use Rattle.js_machine.specs.Looks.{marks_in}
use Rattle.js_machine.specs.Steps.{LeadsTo, over}
use Rattle.js_machine.specs.Views.{View, as_text, becomes, goal_deed, goal_held, key_deed, key_held, method_gave, method_got, party_of}
use Rattle.js_machine.specs.declared.frame.Frame.{Frame}
use Rattle.js_machine.specs.declared.frame.Frame.TheVariants as frame
use Rattle.js_machine.specs.declared.frame.Goal.{Goal}
use Rattle.js_machine.specs.declared.frame.KeyGoal.{KeyGoal}
use Rattle.js_machine.specs.declared.frame.Mode.{Mode}

-- the values of what a primitive value is for are taken off
abbrev pub past_goal : Goal → View → View
past_goal g w = record w { values = drop (goal_held g) w.values }

abbrev pub past_key_goal : KeyGoal → View → View
past_key_goal g w = record w { values = drop (key_held g) w.values }

-- what a primitive value is for goes on with one
abbrev pub Reaches : Goal → Value Ref MadeSymbol → (old new : View) → Mode → Type 0
Reaches g v old new m = LeadsTo (λ a. goal_deed (naming_of old.me) a.shared old.code g old.values v (party_of a old)) (past_goal g old) new m

-- what a property key is for goes on with one
abbrev pub KeyReaches : KeyGoal → Key MadeSymbol → (old new : View) → Mode → Type 0
KeyReaches g k old new m = LeadsTo (λ a. key_deed (naming_of old.me) a.shared old.code g old.values k (party_of a old)) (past_key_goal g old) new m

-- an object becomes a primitive value by these methods
abbrev pub BecomesBy : List (List ℕ) → Ref → Goal → (old new : View) → Mode → Type 0
BecomesBy ns r g old new m = LeadsTo (λ a. becomes (naming_of old.me) a.shared old.code ns r g old.values (party_of a old)) (past_goal g old) new m

-- a method comes
abbrev pub GoesOnWithMethod : (last : Bool) → Ref → Goal → Value Ref MadeSymbol → (old new : View) → Mode → Type 0
GoesOnWithMethod last r g f old new m = LeadsTo (λ a. method_got (naming_of old.me) a.shared old.code last r g old.values f (party_of a old)) (past_goal g old) new m

-- what a method gave comes
abbrev pub GoesOnWithResult : (last : Bool) → Ref → Goal → Value Ref MadeSymbol → (old new : View) → Mode → Type 0
GoesOnWithResult last r g v old new m = LeadsTo (λ a. method_gave (naming_of old.me) a.shared old.code last r g old.values v (party_of a old)) (past_goal g old) new m

-- a method is called
abbrev pub CallsMethod : (last : Bool) → Ref → Goal → (method : Ref) → (old new : View) → Mode → Type 0
CallsMethod last r g f old new m =
    LeadsTo (λ a. asks (naming_of old.me) f (ask.Call (value.Ref r) []) (party_of a old) (with_value (method_gave (naming_of old.me) a.shared old.code last r g old.values))) (past_goal g old) new m

-- an object becomes a primitive value
-- ECMA-262 ToPrimitive
abbrev pub Converts : Ref → Goal → (old new : View) → Mode → Type 0
Converts r g old new m =
    LeadsTo (λ a. to_primitive (naming_of old.me) a.shared (asks (naming_of old.me)) (as_text g) (value.Ref r) (party_of a old) (goal_deed (naming_of old.me) a.shared old.code g old.values)) (past_goal g old) new m

-- a value becomes a property key
-- ECMA-262 ToPropertyKey
abbrev pub BecomesKey : Value Ref MadeSymbol → KeyGoal → (old new : View) → Mode → Type 0
BecomesKey v g old new m = LeadsTo (λ a. to_key (naming_of old.me) a.shared v (party_of a old) (key_deed (naming_of old.me) a.shared old.code g old.values)) (past_key_goal g old) new m

-- the object that can be called that a value is
abbrev pub callable_in : View → Value Ref MadeSymbol → Option Ref
callable_in w (value.Ref f) = if (marks_in w f).callable then Some f else None
callable_in w v = None

-- a method of a value is read, and called
abbrev pub ReadsMethod : (at : ℕ) → (object : Value Ref MadeSymbol) → Key MadeSymbol → (old new : View) → Mode → Type 0
ReadsMethod at o k old new m = LeadsTo (λ a. asks_value (naming_of old.me) o (ask.Get k o) (party_of a old) (with_value (calls_with (naming_of old.me) a.shared o (arguments_at old.code (term_at old.code) at)))) old new m

-- the frame that waits for a property of `super`
abbrev pub super_frame : Option ℕ → Frame
super_frame None = frame.Given
super_frame (Some at) = frame.CallSuperMethod at

-- a property of the object where `super` looks is read
abbrev pub ReadsSuper : (call : Option ℕ) → Ref → Key MadeSymbol → (old new : View) → Mode → Type 0
ReadsSuper call o k old new m = LeadsTo (λ a. with_this (naming_of old.me) (party_of a old) (λ this p. asks (naming_of old.me) o (ask.Get k this) p (over (super_frame call) old a))) old new m
