-- The chain of control.
use Rattle.std.proofs.Common.{◌≡◌, ◌≢◌, ℕ, zero, suc, ◌+◌, ◌-◌, List, [], ◌∷◌, Bool, true, false, refl, sym, ap, ◌∙◌, subst, if◌then◌else◌}
use Rattle.std.proofs.lemmas.Bool.{eq-eqb}
use Rattle.lava_base.specs.declared.ids.MadeSymbol.{MadeSymbol}
use Rattle.lava_base.specs.declared.ids.Ref.TheVariants as reference
use Rattle.lava_base.specs.declared.ids.Ref.{Ref}
use Rattle.js_text.specs.Naming.{Foreign, Own, naming_of, origin_of}
use Rattle.js_desc.specs.declared.reply.Reply.{Reply}
use Rattle.js_run.specs.Acts.{Next}
use Rattle.js_run.specs.Chain.{GoesRight, IsChain, IsLinked, Journal_is_chain, open_pairs}
use Rattle.js_run.specs.Completions.{Replied, reply_of}
use Rattle.js_run.specs.Heap.{Control, Over_with, Runs, World, charged, cross, has_asked, has_run, heap, replies_of, with_own}
use Rattle.js_run.specs.Identities.{Replies, Requests}
use Rattle.js_run.specs.Journal.{Application, Crossing, asked_party, crossing, env_of, first_import, has_room, owner_of, root_link, table_of}
use Rattle.js_run.specs.Net.{first, last_receiver, rest}
use Rattle.js_run.specs.Parties.{Party}
use Rattle.js_run.specs.Runs.{Asks, Gave, Gives, Imports, Makes, Request, Sent, Short, Stop, Stopped, run}
use Rattle.js_run_laws.proofs.Agree.{Stack}
use Rattle.js_run_laws.proofs.Allowed.{IsAllowed, PointAllowed, StopAllowed, run_allowed, serves_allowed, settle_allowed}

-- who asked, and whom, where p runs over this stack
abbrev pairs : ℕ → Stack → List (ℕ × ℕ)
pairs p [] = (0, p) ∷ []
pairs p (b ∷ stack) = (b.0, p) ∷ pairs b.0 stack

record Turn (w : World) (p : ℕ) : Type 0 where
  last : last_receiver w.journal ≡ p
  pairs_are : open_pairs w.journal ≡ pairs p w.stack

abbrev TurnOf : Application → World → Control → Type 0
TurnOf app w (Runs p point) = Turn w p × PointAllowed (naming_of p) app.shared (env_of app (table_of app w.journal) p) point
TurnOf app w (Over_with e) = Unit {0}

-- each sender had the turn
abbrev pub HadTurn : List Crossing → Type 0
HadTurn [] = Unit {0}
HadTurn (x ∷ older) = (x.sender ≡ last_receiver older) × HadTurn older

record Linked (app : Application) (w : World) (c : Control) : Type 0 where
  chain : IsChain app w.journal
  had : HadTurn w.journal
  turn : TurnOf app w c

-- an object that is foreign to a party is another party's
pub owned_elsewhere : (p : ℕ) (g : Ref) → origin_of p g ≡ Foreign → owner_of g ≢ p
owned_elsewhere p (reference.Common c) f e = absurd cc
owned_elsewhere p (reference.Own q i) f e = let bad : Own i.0 ≡ Foreign = sym (ap (λ t. if t then Own i.0 else Foreign) (eq-eqb q.0 p e)) ∙ f in cc bad

-- there is a crossing before each but the first
longer : (app : Application) (x : Crossing) (older : List Crossing) (p : ℕ) (stack : Stack) → open_pairs older ≡ pairs p stack → IsLinked app x older → IsChain app older → IsChain app (x ∷ older)
longer app x [] p [] e h k = absurd cc
longer app x [] p (b ∷ stack) e h k = absurd cc
longer app x (y ∷ older) p stack e h k = (h, k)

goes_request : (app : Application) (w : World) (p : ℕ) (o : Request Ref MadeSymbol) → IsAllowed (naming_of p) app.shared (env_of app (table_of app w.journal) p) o → GoesRight app (Requests o) p (asked_party app w.journal p o) w.journal
goes_request app w p (Asks g m) h = (refl, h, owned_elsewhere p g h)
goes_request app w p (Imports link path) h = (refl, h)
goes_request app w p (Makes globals modules meter) h = refl

asked : (app : Application) (w : World) (p : ℕ) (o : Request Ref MadeSymbol) (own : Party Ref MadeSymbol) (ks : List (Next Ref MadeSymbol)) (n : ℕ) → IsAllowed (naming_of p) app.shared (env_of app (table_of app w.journal) p) o → IsChain app w.journal → HadTurn w.journal → Turn w p → (b : Bool) → Linked app (has_asked app p w o own ks n b) (has_asked app p w o own ks n b).control
asked app w p o own ks n allowed chain had t true =
    let r = asked_party app w.journal p o in
    let x = crossing p r own n (Requests o) in
    record {
      chain = longer app x w.journal p w.stack t.pairs_are (record { control = sym t.last; goes = goes_request app w p o allowed }) chain;
      had = (sym t.last, had);
      turn = (record { last = refl; pairs_are = ap (λ l. (p, r) ∷ l) t.pairs_are }, serves_allowed (naming_of r) app.shared (env_of app (table_of app (x ∷ w.journal)) r) ((with_own p own (charged p n w)).own r) o);
    }
asked app w p o own ks n allowed chain had t false = record { chain = chain; had = had; turn = tt }

gave : (app : Application) (w : World) (p n : ℕ) (own : Party Ref MadeSymbol) (c : Reply Ref MadeSymbol) (stack : Stack) → w.stack ≡ stack → IsChain app w.journal → HadTurn w.journal → Turn w p → Linked app (replies_of app (λ q. crossing p q own n (Replies c)) c stack (with_own p own (charged p n w))) (replies_of app (λ q. crossing p q own n (Replies c)) c stack (with_own p own (charged p n w))).control
gave app w p n own c [] is chain had t =
    let pairs_now : open_pairs w.journal ≡ pairs p [] = t.pairs_are ∙ ap (pairs p) is in
    record { chain = longer app (crossing p 0 own n (Replies c)) w.journal p [] pairs_now (record { control = sym t.last; goes = ap first pairs_now }) chain; had = (sym t.last, had); turn = tt }
gave app w p n own c (b ∷ stack) is chain had t =
    let pairs_now : open_pairs w.journal ≡ pairs p (b ∷ stack) = t.pairs_are ∙ ap (pairs p) is in
    let x = crossing p b.0 own n (Replies c) in
    record {
      chain = longer app x w.journal p (b ∷ stack) pairs_now (record { control = sym t.last; goes = ap first pairs_now }) chain;
      had = (sym t.last, had);
      turn = (record { last = refl; pairs_are = ap rest pairs_now }, settle_allowed (naming_of b.0) app.shared (env_of app (table_of app (x ∷ w.journal)) b.0) b.1 (Gives (Replied c) ((with_own p own (charged p n w)).own b.0)) tt);
    }

ran : (app : Application) (w : World) (p : ℕ) → IsChain app w.journal → HadTurn w.journal → Turn w p → (stop : Stop Ref MadeSymbol) → StopAllowed (naming_of p) app.shared (env_of app (table_of app w.journal) p) stop → Linked app (has_run app p w stop) (has_run app p w stop).control
ran app w p chain had t (Sent o own ks n) h = asked app w p o own ks n h chain had t (has_room app w.journal o)
ran app w p chain had t (Gave c own n) h = gave app w p n own (reply_of c) w.stack refl chain had t
ran app w p chain had t (Stopped k n) h = record { chain = chain; had = had; turn = tt }
ran app w p chain had t (Short n) h = record { chain = chain; had = had; turn = tt }

crossed : (app : Application) (budget : ℕ) (w : World) (c : Control) → c ≡ w.control → Linked app w c → Linked app (cross app budget w c) (cross app budget w c).control
crossed app budget w (Runs p point) is h =
    let env = env_of app (table_of app w.journal) p in
    let limit = w.steps p + (budget - w.spent) in
    ran app w p h.chain h.had h.turn.0 (run (naming_of p) app.shared env limit (w.steps p) point) (run_allowed (naming_of p) app.shared env limit (w.steps p) point h.turn.1)
crossed app budget w (Over_with e) is h = subst (Linked app w) is (record { chain = h.chain; had = h.had; turn = tt })

linked : (app : Application) (budget m : ℕ) → Linked app (heap app budget m) (heap app budget m).control
linked app budget zero = record { chain = refl; had = (refl, tt); turn = (record { last = refl; pairs_are = refl }, serves_allowed (naming_of 1) app.shared (env_of app (table_of app (first_import ∷ [])) 1) (app.own 1) (Imports root_link [])) }
linked app budget (suc m) = let w = heap app budget m in crossed app budget w w.control refl (linked app budget m)

pub is_chain : Journal_is_chain
is_chain app budget m = (linked app budget m).chain

pub had_turn : (app : Application) (budget m : ℕ) → HadTurn (heap app budget m).journal
had_turn app budget m = (linked app budget m).had
