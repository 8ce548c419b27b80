-- Calls of the host's functions, and what the outside answers.
use Rattle.std.specs.Prelude.{◌≡◌, ℕ, Bool, List, [], ◌∷◌, map, Option, Some, None}
use Rattle.lava_base.specs.declared.ids.MadeSymbol.{MadeSymbol}
use Rattle.lava_base.specs.declared.ids.Ref.{Ref}
use Rattle.js_text.specs.Naming.{Origin, Own, Common, Foreign, naming_of}
use Rattle.js_text.specs.declared.value.Value.{Value}
use Rattle.js_text.specs.declared.value.Value.TheVariants as value
use Rattle.js_desc.specs.declared.ask.Ask.{Ask}
use Rattle.js_desc.specs.declared.ask.Ask.TheVariants as ask
use Rattle.js_operation.specs.js_run.Hosts.{printed_marks, printed_primitive}
use Rattle.js_operation.specs.js_run.Outside.{OutsideAnswer, OutsideCall, AnswersText, AnswersNumber, AnswersTruth, AnswersNull, AnswersUndefined, Fails, IsGone}
use Rattle.js_machine.specs.Looks.{marks_in}
use Rattle.js_machine.specs.Steps.{Keeps, point_of}
use Rattle.js_machine.specs.Views.{Around, Values, View, fitting}
use Rattle.js_machine.specs.declared.frame.Mode.{Mode}
use Rattle.js_machine.specs.declared.frame.Mode.TheVariants as mode
use Rattle.js_machine.specs.declared.outside.HostAnswer.{HostAnswer}
use Rattle.js_machine.specs.declared.outside.HostAnswer.TheVariants as host_answer

abbrev pub answer_of : HostAnswer → OutsideAnswer
answer_of (host_answer.Text t) = AnswersText t
answer_of (host_answer.Number n) = AnswersNumber n
answer_of (host_answer.Truth b) = AnswersTruth b
answer_of host_answer.Null = AnswersNull
answer_of host_answer.Undefined = AnswersUndefined
answer_of (host_answer.Fails t) = Fails t
answer_of host_answer.Gone = IsGone

-- a value as the host prints it, an object by its marks
abbrev pub printed_in : View → Value Ref MadeSymbol → List ℕ
printed_in w (value.Ref r) = printed_marks (marks_in w r)
printed_in w v = printed_primitive v

-- the arguments of what is asked, where it is a call
abbrev pub arguments_in : Ask Ref MadeSymbol → Values
arguments_in (ask.Call this args) = args
arguments_in x = []

abbrev pub printed_truth : Bool → List ℕ
printed_truth b = printed_primitive {R = Ref} {S = MadeSymbol} (value.Bool b)

-- the number of a function of the host
abbrev pub number_at : Origin → ℕ
number_at (Own i) = i
number_at (Common c) = 0
number_at Foreign = 0

-- the call of a function of the host
abbrev pub call_in : View → Ref → OutsideCall
call_in w me = record { function = number_at ((naming_of w.me).origin me); arguments = map (printed_in w) (arguments_in w.asked.ask) }

abbrev pub with_call : OutsideCall → View → View
with_call c w = record w { calls = c ∷ w.calls }

-- the call that the outside answers
abbrev pub newest_call : List OutsideCall → Option OutsideCall
newest_call [] = None
newest_call (c ∷ cs) = Some c

-- the machine stands where the answer leads, if the outside answers so
pub record IsAnswered (x : HostAnswer) (old new : View) (m : Mode) : Type 0 where
  pub stands : (a : Around) → a.env.outside old.calls ≡ answer_of x → let b = fitting old a in point_of b new m ≡ point_of b old mode.Outside
  pub keeps : Keeps old new
