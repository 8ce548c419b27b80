-- What the outside is asked in a run, and what it answers.
use Rattle.std.specs.Prelude.{◌≡◌, ℕ, zero, suc, Bool, pos, List, [], ◌∷◌, map, Option, Some, None, Ok, Err, ℤ}
use Rattle.lava_base.specs.declared.ids.MadeSymbol.{MadeSymbol}
use Rattle.lava_base.specs.declared.ids.Ref.{Ref}
use Rattle.js_text.specs.declared.value.Value.{Value}
use Rattle.js_text.specs.declared.value.Value.TheVariants as value
use Rattle.js_desc.specs.declared.ask.Ask.{Ask}
use Rattle.js_desc.specs.declared.ask.Ask.TheVariants as ask
use Rattle.js_desc.specs.declared.reply.Reply.TheVariants as reply
use Rattle.js_world.specs.js_run.Journal.{Application, outside_of}
use Rattle.js_world.specs.js_run.Outside.{OutsideCall, OutsideAnswer, AnswersText, AnswersNumber, AnswersTruth, AnswersNull, AnswersUndefined, Fails, IsGone}
use Rattle.lava_host.specs.Functions.{function_of}
use Rattle.lava_host.specs.Hosts.{HostWorld, Replies}
use Rattle.lava_host.specs.Hosts as hosts
use Rattle.js_world.specs.js_machine.Outsides.{answer_of}
use Rattle.js_world.specs.js_machine.declared.outside.HostAnswer.{HostAnswer}
use Rattle.js_world.specs.Worlds.{WorldView}
use Rattle.lava_host.specs.Replies.{HostReply}
use Rattle.lava_host.specs.declared.fault.HostFault.TheVariants.{Outside, OutOfMemory}
use Rattle.lava_host.specs.declared.fault.Which.{Which}
use Rattle.lava_host.specs.declared.function.HostFunction.{HostFunction}

-- the newest of a party's calls, with those before it, what it is answered, and the object of the outside that failed, if one did
pub record Talk : Type 0 where
  pub party : ℕ
  pub calls : List OutsideCall
  pub answer : OutsideAnswer
  pub failed : Option Which

-- what is said at a call of the party in the machine
abbrev pub talk_of : WorldView → HostAnswer → Option Which → Talk
talk_of v x failed = record { party = v.machine.me; calls = v.machine.calls; answer = answer_of x; failed = failed }

abbrev pub newest_failed : List Talk → Option Which
newest_failed [] = None
newest_failed (t ∷ ts) = t.failed

-- a number that is answered
abbrev pub number_answered : ℤ → OutsideAnswer
number_answered (pos n) = AnswersNumber n
number_answered n = AnswersUndefined

-- what the host gives, as the outside's answer
abbrev pub value_answered : Value Ref MadeSymbol → OutsideAnswer
value_answered (value.Text t) = AnswersText t
value_answered (value.Int n) = number_answered n
value_answered (value.Bool b) = AnswersTruth b
value_answered value.Null = AnswersNull
value_answered v = AnswersUndefined

-- what the host throws is the text of an error
abbrev pub thrown_answered : Value Ref MadeSymbol → OutsideAnswer
thrown_answered (value.Text t) = Fails t
thrown_answered v = Fails []

abbrev pub reply_answered : HostReply → OutsideAnswer
reply_answered (reply.Value v) = value_answered v
reply_answered (reply.Throw v) = thrown_answered v
reply_answered r = AnswersUndefined

-- where an object of the outside failed there is no answer, and the run ends
abbrev pub answered_by : hosts.HostAnswer → Option OutsideAnswer
answered_by (Ok r) = Some (reply_answered r)
answered_by (Err (Outside w)) = Some IsGone
answered_by (Err OutOfMemory) = None

abbrev pub failed_by : hosts.HostAnswer → Option Which
failed_by (Ok r) = None
failed_by (Err (Outside w)) = Some w
failed_by (Err OutOfMemory) = None

-- what the host answers, as the outside's
pub record IsAnsweredBy (given : hosts.HostAnswer) (x : HostAnswer) (failed : Option Which) : Type 0 where
  pub is : answered_by given ≡ Some (answer_of x)
  pub which : failed_by given ≡ failed

-- the function of the host that a call names, and the call as the host is asked
abbrev pub function_called : List OutsideCall → Option HostFunction
function_called [] = None
function_called (c ∷ cs) = function_of c.function

abbrev pub text_values : List (List ℕ) → List (Value Ref MadeSymbol)
text_values ts = map (λ t. value.Text t) ts

abbrev pub ask_called : List OutsideCall → Ask Ref MadeSymbol
ask_called [] = ask.Call value.Undefined []
ask_called (c ∷ cs) = ask.Call value.Undefined (text_values c.arguments)

-- the host's answer to a call, and what it has done to the outside
pub record IsHostTalk (emit : Bool) (dir : List ℕ) (t : Talk) (before after : HostWorld) : Type 0 where
  pub given : hosts.HostAnswer
  pub replies : Replies (function_called t.calls) (ask_called t.calls) emit dir before after given
  pub is : answered_by given ≡ Some t.answer
  pub failed : failed_by given ≡ t.failed

-- the outside is the host's alone: another party has no answer
pub record IsRefused (t : Talk) (before after : HostWorld) : Type 0 where
  pub is : t.answer ≡ Fails []
  pub none : t.failed ≡ None
  pub rest : after ≡ before

abbrev pub IsTalk : Bool → List ℕ → ℕ → Talk → (before after : HostWorld) → Type 0
IsTalk emit dir zero t before after = IsHostTalk emit dir t before after
IsTalk emit dir (suc p) t before after = IsRefused t before after

-- all that was asked and answered, the newest first, and what it has done to the outside
abbrev pub AreTalks : Bool → List ℕ → List Talk → (before after : HostWorld) → Type 0
AreTalks emit dir [] before after = before ≡ after
AreTalks emit dir (t ∷ ts) before after = (mid : HostWorld) × (AreTalks emit dir ts before mid × IsTalk emit dir t.party t mid after)

-- the outside of an application answers so
abbrev pub Agrees : Application → List Talk → Type 0
Agrees app [] = Unit {0}
Agrees app (t ∷ ts) = (outside_of app t.party t.calls ≡ t.answer) × Agrees app ts
