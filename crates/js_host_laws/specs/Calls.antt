-- The calls of the outside that a journal has: each is a Call of another party at a function of the host.
use Rattle.std.specs.Prelude.{◌≡◌, ◌≢◌, ◌⊎◌, ℕ, zero, suc, Bool, true, false, ◌&&◌, not, nat_lt, pos, List, [], ◌∷◌, ◌++◌, get_or, length, map, replicate, ⊤, Option, Some, None, if◌then◌else◌}
use Rattle.lava_base.specs.declared.ids.MadeSymbol.{MadeSymbol}
use Rattle.lava_base.specs.declared.ids.Ref.{Ref}
use Rattle.lava_base.specs.declared.marks.Marks.{Marks}
use Rattle.js_text.specs.Naming.{Origin, Own, Common, Foreign, naming_of, origin_of}
use Rattle.js_text.specs.declared.text.TheConstants.{MAX_UNITS}
use Rattle.js_text.specs.declared.value.Value.{Value}
use Rattle.js_text.specs.declared.value.Value.TheVariants as value
use Rattle.js_desc.specs.declared.ask.Ask.{Ask}
use Rattle.js_desc.specs.declared.ask.Ask.TheVariants as ask
use Rattle.js_desc.specs.declared.reply.Reply.{Reply}
use Rattle.js_desc.specs.declared.reply.Reply.TheVariants as reply
use Rattle.js_store.specs.Objects.{Object, object_at, plain_marks}
use Rattle.js_run.specs.Completions as halt
use Rattle.js_run.specs.Completions.{Halt}
use Rattle.js_run.specs.Faults.{error_marks}
use Rattle.js_run.specs.Heap.{World, heap}
use Rattle.js_run.specs.Hosts.{host_objects, printed_marks, printed_primitive}
use Rattle.js_run.specs.Identities.{Message, Requests, Replies}
use Rattle.js_run.specs.Journal.{Application, Crossing, Ending, Done as Is_done, Uncaught, Budget, Fault, Parties, is_host, table_of}
use Rattle.js_run.specs.Laws.{ending_of}
use Rattle.js_run.specs.Outside.{OutsideCall, OutsideAnswer, AnswersText, AnswersNumber, AnswersTruth, AnswersNull, AnswersUndefined, Fails, IsGone}
use Rattle.js_run.specs.Parties.{Shared}
use Rattle.js_run.specs.Runs.{Request, Asks, Imports, Makes}
use Rattle.js_run.specs.Starts.{host_party}
use Rattle.js_host_laws.specs.Prototypes.{HasRepairs}

-- THE THINGS OF THE HOST

-- what throws
abbrev pub throws_so : Reply Ref MadeSymbol → Bool
throws_so (reply.Throw v) = true
throws_so (reply.Value v) = false
throws_so (reply.Proto o) = false
throws_so (reply.Flag b) = false
throws_so (reply.Desc d) = false
throws_so (reply.Keys ks) = false

abbrev pub is_thrown : Message Ref MadeSymbol → Bool
is_thrown (Requests o) = false
is_thrown (Replies r) = throws_so r

abbrev pub newest_throws : List Crossing → Bool
newest_throws [] = false
newest_throws (x ∷ older) = is_thrown x.sent.body

-- the host throws a new error where nothing was thrown to it: else it passes on what came
abbrev pub makes_error : Crossing → List Crossing → Bool
makes_error y older = is_host y.sender && (is_thrown y.sent.body && not (newest_throws older))

-- how many errors the host has made in a journal
abbrev pub errors_of : List Crossing → ℕ
errors_of [] = 0
errors_of (y ∷ older) = if makes_error y older then suc (errors_of older) else errors_of older

-- the marks of the host's objects: those that it has from the start, and its errors behind them
abbrev pub all_marks : (errors : ℕ) → List Marks
all_marks n = map (λ (o : Object Ref MadeSymbol). o.marks) (host_objects (naming_of 0)) ++ replicate n error_marks

abbrev pub thing_marks : (errors place : ℕ) → Marks
thing_marks n i = get_or (all_marks n) i plain_marks

-- HOW THE HOST PRINTS

-- the marks of an object: of an own one and one of the common part in its record, of another party's as they came with it
abbrev pub marks_seen : Shared → (errors : ℕ) → (Ref → Marks) → Ref → Origin → Marks
marks_seen shared errors marks r (Own i) = thing_marks errors i
marks_seen shared errors marks r (Common c) = (object_at shared.objects c).marks
marks_seen shared errors marks r Foreign = marks r

-- an argument as it is printed
abbrev pub printed : Shared → (errors : ℕ) → (Ref → Marks) → Value Ref MadeSymbol → List ℕ
printed shared errors marks (value.Ref r) = printed_marks (marks_seen shared errors marks r (origin_of 0 r))
printed shared errors marks value.Undefined = printed_primitive {R = Ref} {S = MadeSymbol} value.Undefined
printed shared errors marks value.Null = printed_primitive {R = Ref} {S = MadeSymbol} value.Null
printed shared errors marks (value.Bool b) = printed_primitive {R = Ref} {S = MadeSymbol} (value.Bool b)
printed shared errors marks (value.Int n) = printed_primitive {R = Ref} {S = MadeSymbol} (value.Int n)
printed shared errors marks (value.Text t) = printed_primitive {R = Ref} {S = MadeSymbol} (value.Text t)
printed shared errors marks (value.Symbol s) = printed_primitive {R = Ref} {S = MadeSymbol} (value.Symbol s)

-- THE CALLS OF A JOURNAL

module _ (shared : Shared) (errors : ℕ) (marks : Ref → Marks) where
  -- an object of the host that is callable is one of its functions, whose call is a call of the outside with the arguments as they are printed
  abbrev pub call_there : Origin → List (Value Ref MadeSymbol) → Option OutsideCall
  call_there (Own i) args = if (thing_marks errors i).callable then Some (record { function = i; arguments = map (printed shared errors marks) args }) else None
  call_there (Common c) args = None
  call_there Foreign args = None

  abbrev pub call_asked : Ref → Ask Ref MadeSymbol → Option OutsideCall
  call_asked r (ask.Call this args) = call_there (origin_of 0 r) args
  call_asked r x = None

  abbrev pub call_requested : Request Ref MadeSymbol → Option OutsideCall
  call_requested (Asks r x) = call_asked r x
  call_requested (Imports link path) = None
  call_requested (Makes globals modules meter) = None

  abbrev pub call_sent : Message Ref MadeSymbol → Option OutsideCall
  call_sent (Requests o) = call_requested o
  call_sent (Replies r) = None

-- the call of the outside that a crossing is, where these crossings came before it
abbrev pub call_of : Application → Crossing → List Crossing → Option OutsideCall
call_of app x older = if is_host x.receiver then call_sent app.shared (errors_of older) (table_of app (x ∷ older)) x.sent.body else None

abbrev pub with_call : Option OutsideCall → List OutsideCall → List OutsideCall
with_call None calls = calls
with_call (Some c) calls = c ∷ calls

-- the calls of the outside in a journal, in its order
abbrev pub host_calls_of : Application → List Crossing → List OutsideCall
host_calls_of app [] = []
host_calls_of app (x ∷ older) = with_call (call_of app x older) (host_calls_of app older)

-- WHAT THE HOST REPLIES

abbrev pub unless_past : (length_of_text : ℕ) → Reply Ref MadeSymbol → Option (Reply Ref MadeSymbol)
unless_past n r = if nat_lt MAX_UNITS n then None else Some r

-- what the outside told, as the host's reply: a value, or an error that is thrown and whose number is that of the objects before it. Where there is no answer, or an error's text is past the limit, the run ends
abbrev pub told : (objects_before : ℕ) → OutsideAnswer → Option (Reply Ref MadeSymbol)
told n (AnswersText t) = Some (reply.Value (value.Text t))
told n (AnswersNumber k) = Some (reply.Value (value.Int (pos k)))
told n (AnswersTruth b) = Some (reply.Value (value.Bool b))
told n AnswersNull = Some (reply.Value value.Null)
told n AnswersUndefined = Some (reply.Value value.Undefined)
told n (Fails t) = unless_past (length t) (reply.Throw (value.Ref ((naming_of 0).own n)))
told n IsGone = None

-- how the run ends there
abbrev pub ended_by : OutsideAnswer → Option Halt
ended_by (AnswersText t) = None
ended_by (AnswersNumber n) = None
ended_by (AnswersTruth b) = None
ended_by AnswersNull = None
ended_by AnswersUndefined = None
ended_by (Fails t) = if nat_lt MAX_UNITS (length t) then Some halt.Text else None
ended_by IsGone = Some halt.Outside

-- the reply to a call, where these calls came before it, and so many errors
abbrev pub reply_to : Application → OutsideCall → (older : List OutsideCall) → (errors : ℕ) → Option (Reply Ref MadeSymbol)
reply_to app c older errors = told (length (all_marks errors)) (app.outside (c ∷ older))

-- a crossing is the host's reply to the call that the crossing before it is: it has what the outside told
pub record IsAnswerTo (app : Application) (y x : Crossing) (c : OutsideCall) (older : List Crossing) : Type 0 where
  pub sender : y.sender ≡ 0
  pub receiver : y.receiver ≡ x.sender
  pub reply : Reply Ref MadeSymbol
  pub body : y.sent.body ≡ Replies reply
  pub is : reply_to app c (host_calls_of app older) (errors_of older) ≡ Some reply

abbrev pub Answers : Application → (y x : Crossing) → Option OutsideCall → (older : List Crossing) → Type 0
Answers app y x None older = ⊤
Answers app y x (Some c) older = IsAnswerTo app y x c older

-- each crossing that is a call of the outside is answered by the next one
abbrev pub AreAnswered : Application → List Crossing → Type 0
AreAnswered app [] = ⊤
AreAnswered app (y ∷ []) = ⊤
AreAnswered app (y ∷ x ∷ older) = Answers app y x (call_of app x older) older × AreAnswered app (x ∷ older)

-- THE LAW

-- the calls that the host has made are those of the journal
abbrev pub HasAll : Application → World → Type 0
HasAll app w = host_calls_of app w.journal ≡ (w.own 0).calls

-- the run ended in the host, at the newest call, with the ending that the outside's answer gives
abbrev pub EndsThere : Application → World → Halt → Type 0
EndsThere app w e = (c : OutsideCall) × (host_calls_of app w.journal ≡ c ∷ (w.own 0).calls) × (ended_by (app.outside (c ∷ (w.own 0).calls)) ≡ Some e)

-- so it does where the outside has no answer. It also ends in the host where too much is open in it, or a text is too long
abbrev pub HasCalled : Application → World → Ending → Type 0
HasCalled app w Is_done = HasAll app w
HasCalled app w Uncaught = HasAll app w
HasCalled app w (Budget p) = HasAll app w
HasCalled app w (Parties p) = HasAll app w
HasCalled app w (Fault zero e) = EndsThere app w e ⊎ (HasAll app w × (e ≢ halt.Outside))
HasCalled app w (Fault (suc p) e) = HasAll app w

pub record Calls_are_crossings (app : Application) (w : World) (e : Ending) : Type 0 where
  pub calls : HasCalled app w e
  pub answered : AreAnswered app w.journal

-- the host stands first in an application, and the accessors that its objects inherit are those of lockdown
pub record HasHost (app : Application) : Type 0 where
  pub first : app.own 0 ≡ host_party
  pub counted : app.count ≢ 0
  pub repairs : HasRepairs app.shared.objects

-- each crossing that is a Call at a function of the host is one call of the outside, in its order and with its arguments as they are printed, and there is no other one, whatever the host is asked besides; the crossing behind it has what the outside told
abbrev pub Host_calls_are_crossings : Type 0
Host_calls_are_crossings =
    (app : Application) → HasHost app → (budget crossings : ℕ) (e : Ending) → ending_of (heap app budget crossings).control ≡ Some e
    → Calls_are_crossings app (heap app budget crossings) e

-- where the outside has no answer to these calls, and to no others, and the run ends there, they are the calls of the journal
abbrev pub Gone_at_the_newest : Type 0
Gone_at_the_newest =
    (app : Application) → HasHost app → (budget crossings : ℕ) → ending_of (heap app budget crossings).control ≡ Some (Fault 0 halt.Outside)
    → (calls : List OutsideCall) → ((cs : List OutsideCall) → app.outside cs ≡ IsGone → cs ≡ calls)
    → host_calls_of app (heap app budget crossings).journal ≡ calls
