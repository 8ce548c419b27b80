-- A party by itself: what it does with the crossings that come to it. Histories have the newest first.
use Rattle.std.specs.Prelude.{ℕ, List, [], ◌∷◌, Option, Some, None, length}
use Rattle.lava_base.specs.declared.marks.Marks.{Marks}
use Rattle.js_text.specs.Identities.{Identity, Of_object, Of_symbol}
use Rattle.js_text.specs.Naming.{Naming, Origin, Own, Common, Foreign}
use Rattle.js_text.specs.declared.value.Key.{Key}
use Rattle.js_text.specs.declared.value.Value.{Value}
use Rattle.js_text.specs.declared.value.Value.TheVariants as value
use Rattle.js_desc.specs.declared.ask.Ask as a
use Rattle.js_desc.specs.declared.reply.Reply.TheVariants as reply
use Rattle.js_store.specs.Objects.{object_at}
use Rattle.js_run.specs.Acts.{Next}
use Rattle.js_run.specs.Completions.{Replied, Halt, reply_of}
use Rattle.js_run.specs.Globals.{made_global}
use Rattle.js_run.specs.Identities.{Message, Requests, Replies, message_identities}
use Rattle.js_run.specs.Modules.{imports}
use Rattle.js_run.specs.NativeTurns.{served_units}
use Rattle.js_run.specs.Parties.{Party, Shared, made}
use Rattle.js_run.specs.Runs.{Env, Request, Asks, Imports, Makes, Decides, Gives, Point, Due, Over, answered, settle, Stop, Sent, Gave, Stopped, Short, run}

-- what is sent, with the sender's steps so far and the marks of those of its own objects that it names
pub record Outgoing (R S : Type 0) : Type 0 where
  pub body : Message R S
  pub steps : ℕ
  pub marks : List (R × Marks)

abbrev pub marks_of_place : {R S : Type 0} → Party R S → R → Origin → List (R × Marks) → List (R × Marks)
marks_of_place p r (Own i) more = (r, (object_at p.objects i).marks) ∷ more
marks_of_place p r (Common c) more = more
marks_of_place p r Foreign more = more

abbrev pub own_marks : {R S : Type 0} → Naming R S → Party R S → List (Identity R S) → List (R × Marks)
own_marks names p [] = []
own_marks names p (Of_object r ∷ rest) = marks_of_place p r (names.origin r) (own_marks names p rest)
own_marks names p (Of_symbol s ∷ rest) = own_marks names p rest

abbrev pub outgoing : {R S : Type 0} → Naming R S → Party R S → ℕ → Message R S → Outgoing R S
outgoing names p n x = record { body = x; steps = n; marks = own_marks names p (message_identities x) }

pub data Standing (R S : Type 0) : Type 0 where
  -- it waits, each of its bodies that sent an ask with what is left of it, the last one first
  Waits : Party R S → List (List (Next R S)) → Standing R S
  Is_short : Standing R S
  Has_ended : Halt → Standing R S

pub record Local (R S : Type 0) : Type 0 where
  pub sent : List (Outgoing R S)
  pub steps : ℕ
  pub standing : Standing R S

-- after a run of a body
abbrev pub after : {R S : Type 0} → Naming R S → List (Outgoing R S) → List (List (Next R S)) → Stop R S → Local R S
after names sent bodies (Sent o p ks n) = record { sent = outgoing names p n (Requests o) ∷ sent; steps = n; standing = Waits p (ks ∷ bodies) }
after names sent bodies (Gave c p n) = record { sent = outgoing names p n (Replies (reply_of c)) ∷ sent; steps = n; standing = Waits p bodies }
after names sent bodies (Stopped e n) = record { sent = sent; steps = n; standing = Has_ended e }
after names sent bodies (Short n) = record { sent = sent; steps = n; standing = Is_short }

abbrev pub first_sent : {R S : Type 0} → Option (List ℕ) → List (Outgoing R S)
first_sent None = []
first_sent (Some l) = record { body = Requests (Imports l []); steps = 0; marks = [] } ∷ []

-- a party that is made has one object, its global, and answers with it; it has the meter of its maker
-- SES Compartment
abbrev pub made_party : {R S : Type 0} → Naming R S → List (Key S × Value R S) → List (List ℕ × Value R S) → Option ℕ → Party R S → Point R S
made_party names globals modules meter p =
    Over (Replied (reply.Value (value.Ref (names.own (length p.objects))))) (made (record p { meter = meter; module_map = modules }) (made_global names globals))

-- an ask at an object of the party is decided and charged; one at an object that is none of the party's does not come
abbrev pub serves_at : {R S : Type 0} → Origin → R → a.Ask R S → Party R S → Point R S
serves_at (Own i) r x p = Due (served_units x) (Decides (value.Ref r) x) p []
serves_at (Common c) r x p = Due (served_units x) (Decides (value.Ref r) x) p []
serves_at Foreign r x p = Over (Replied (reply.Throw value.Undefined)) p

module _ {R S : Type 0} (names : Naming R S) (shared : Shared) (env : Env R) where
  -- what the party runs for an ask
  abbrev pub serves : Party R S → Request R S → Point R S
  serves p (Asks r x) = serves_at (names.origin r) r x p
  serves p (Imports link path) = settle names shared env [] (answered names env (imports names link path p))
  serves p (Makes globals modules meter) = made_party names globals modules meter p

  -- what a party that waits does with what comes, and which bodies stay bodies
  abbrev pub served : Party R S → List (List (Next R S)) → Message R S → Option (Point R S × List (List (Next R S)))
  served p bodies (Requests x) = Some (serves p x, bodies)
  served p [] (Replies r) = None
  served p (ks ∷ bodies) (Replies r) = Some (settle names shared env ks (Gives (Replied r) p), bodies)

  abbrev pub taken_up : ℕ → Local R S → Option (Point R S × List (List (Next R S))) → Local R S
  taken_up n r None = r
  taken_up n r (Some s) = after names r.sent s.1 (run names shared env n r.steps s.0)

  abbrev pub takes : ℕ → Local R S → Standing R S → Message R S → Local R S
  takes n r (Waits p bodies) x = taken_up n r (served p bodies x)
  takes n r Is_short x = r
  takes n r (Has_ended e) x = r

  -- a party run against what came to it, with at most n steps
  abbrev pub local : Party R S → ℕ → List (Message R S) → Local R S
  local start n [] = record { sent = first_sent env.first; steps = 0; standing = Waits start [] }
  local start n (x ∷ older) = let r = local start n older in takes n r r.standing x
