-- Control passes from hand to hand, and each reply closes the latest open ask.
use Rattle.std.specs.Prelude.{◌≡◌, ◌≢◌, ℕ, ◌+◌, List, [], ◌∷◌, Some, ⊤, true}
use Rattle.lava_base.specs.declared.ids.MadeSymbol.{MadeSymbol}
use Rattle.lava_base.specs.declared.ids.Ref.{Ref}
use Rattle.js_text.specs.Naming.{Foreign, origin_of}
use Rattle.js_run.specs.Heap.{heap}
use Rattle.js_run.specs.Identities.{Message, Requests, Replies}
use Rattle.js_run.specs.Journal.{Application, Crossing, first_import, owner_of, parties_made}
use Rattle.js_run.specs.Net.{rest, first, last_receiver}
use Rattle.js_run.specs.Runs.{Asks, Imports, Makes}

-- the asks that are open, each with its sender and its receiver, the latest first
abbrev pub opens : Message Ref MadeSymbol → ℕ → ℕ → List (ℕ × ℕ) → List (ℕ × ℕ)
opens (Requests x) s r open_before = (s, r) ∷ open_before
opens (Replies c) s r open_before = rest open_before

abbrev pub open_pairs : List Crossing → List (ℕ × ℕ)
open_pairs [] = []
open_pairs (x ∷ older) = opens x.sent.body x.sender x.receiver (open_pairs older)

-- an ask goes to the owner of its target, which is another party, or to the linked package, which the sender's row allows, or to the party that is made next;
-- a reply goes from the receiver of the latest open ask to its sender
abbrev pub GoesRight : Application → Message Ref MadeSymbol → (sender receiver : ℕ) → List Crossing → Type 0
GoesRight app (Requests (Asks o x)) s r older = (r ≡ owner_of o) × (origin_of s o ≡ Foreign) × (r ≢ s)
GoesRight app (Requests (Imports link path)) s r older = (r ≡ app.links s link) × (app.allows s r ≡ true)
GoesRight app (Requests (Makes globals modules meter)) s r older = r ≡ app.count + parties_made older
GoesRight app (Replies c) s r older = first (open_pairs older) ≡ Some (r, s)

pub record IsLinked (app : Application) (x : Crossing) (older : List Crossing) : Type 0 where
  pub control : x.sender ≡ last_receiver older
  pub goes : GoesRight app x.sent.body x.sender x.receiver older

-- but for the host's import, which comes first
abbrev pub IsChain : Application → List Crossing → Type 0
IsChain app [] = ⊤
IsChain app (x ∷ []) = x ≡ first_import
IsChain app (x ∷ y ∷ older) = IsLinked app x (y ∷ older) × IsChain app (y ∷ older)

abbrev pub Journal_is_chain : Type 0
Journal_is_chain = (app : Application) (budget crossings : ℕ) → IsChain app (heap app budget crossings).journal
