-- What is noted changes nothing else, and is the newest crossing of the journal.
use Rattle.std.proofs.Common.{◌≡◌, ℕ, true, List, ◌∷◌, Some, sym, ap, ◌∙◌, if◌then◌else◌}
use Rattle.lava_base.specs.declared.ids.MadeSymbol.{MadeSymbol}
use Rattle.lava_base.specs.declared.ids.Ref.{Ref}
use Rattle.lava_base.specs.declared.marks.Marks.{Marks}
use Rattle.js_text.specs.Naming.{naming_of}
use Rattle.js_desc.specs.declared.reply.Reply.{Reply}
use Rattle.js_crossing.specs.js_run.Heap as heap
use Rattle.js_crossing.specs.js_run.Identities.{message_identities}
use Rattle.js_crossing.specs.js_run.Journal.{Application, Crossing, foreign_of}
use Rattle.js_crossing.specs.js_run.Local.{own_marks}
use Rattle.js_crossing.specs.js_run.Parties.{Party}
use Rattle.js_crossing.specs.js_run.Runs.{Request}
use Rattle.js_crossing.specs.js_machine.Looks.{marks_in}
use Rattle.js_crossing.specs.js_machine.Views.{View}
use Rattle.js_world.specs.Crossings.{GoesOn, HandsOver, Rests}
use Rattle.js_crossing.specs.Newest.{crossing_of, newest_crossing, references_in, with_their_marks}
use Rattle.js_world.specs.Worlds.{HasAnswered, HasNewest, WorldView, noted}
use Rattle.js_crossing.specs.declared.newest.TracedCrossing.{TracedCrossing}
use Rattle.js_world.specs.declared.waiting.Waiting.{Waiting}
use Rattle.js_crossing.proofs.Newest_laws.{listed_so}

-- NOTHING ELSE CHANGES

pub rests_noted : (app : Application) (w : heap.World) (y : TracedCrossing) (v : WorldView) → Rests app w v → Rests app w (noted y v)
rests_noted app w y v r = record {
  suits = record { reads = r.suits.reads; objects = r.suits.objects; templates = r.suits.templates; me = r.suits.me; links = r.suits.links; meters = r.suits.meters; leads = r.suits.leads };
  own = r.own;
  counts = record { steps = r.counts.steps; spent = r.counts.spent; stack = r.counts.stack; known = r.counts.known };
}

pub rests_traced : (app : Application) (w : heap.World) (v : WorldView) → Rests app w v → Rests app w (record v { tracing = true })
rests_traced app w v r = record {
  suits = record { reads = r.suits.reads; objects = r.suits.objects; templates = r.suits.templates; me = r.suits.me; links = r.suits.links; meters = r.suits.meters; leads = r.suits.leads };
  own = r.own;
  counts = record { steps = r.counts.steps; spent = r.counts.spent; stack = r.counts.stack; known = r.counts.known };
}

pub hands_noted : (app : Application) (w : heap.World) (y : TracedCrossing) (v : WorldView) (q : ℕ) (o : Request Ref MadeSymbol) → HandsOver app w v q o → HandsOver app w (noted y v) q o
hands_noted app w y v q o h = record { rests = rests_noted app w y v h.rests; control = h.control }

pub goes_noted : (app : Application) (w : heap.World) (y : TracedCrossing) (v : WorldView) (b : Waiting) (r : Reply Ref MadeSymbol) → GoesOn app w v b r → GoesOn app w (noted y v) b r
goes_noted app w y v b r h = record { rests = rests_noted app w y v h.rests; control = h.control }

pub answered_noted : (app : Application) (w : heap.World) (y : TracedCrossing) (v : WorldView) → HasAnswered app w v → HasAnswered app w (noted y v)
answered_noted app w y v h = record {
  suits = record { reads = h.suits.reads; objects = h.suits.objects; templates = h.suits.templates; me = h.suits.me; links = h.suits.links; meters = h.suits.meters; leads = h.suits.leads };
  own = h.own;
  counts = record { steps = h.counts.steps; spent = h.counts.spent; stack = h.counts.stack; known = h.counts.known };
  last = h.last;
}

-- THE NEWEST CROSSING

-- what the sender notes once it has left is the newest crossing of the journal
pub newest_sent : (app : Application) (after : heap.World) (x : Crossing) (older : List Crossing) (m : View) (s : Party Ref MadeSymbol) (rs : List Ref) (v : WorldView) → after.journal ≡ x ∷ older → x.sender ≡ m.me
    → x.sent.marks ≡ own_marks (naming_of m.me) s (message_identities x.sent.body) → m.common ≡ app.shared.objects → s.objects ≡ m.objects → m.known ≡ foreign_of app (x ∷ older) → references_in (message_identities x.sent.body) ≡ rs
    → HasNewest app after (noted (record { crossing = crossing_of x; marks = with_their_marks (marks_in m) rs }) v)
newest_sent app after x older m s rs v journal me said common own known is traced =
    let traced_with : List (Ref × Marks) → TracedCrossing = λ ms. record { crossing = crossing_of x; marks = ms } in
    ap (λ b. if b then Some (traced_with (with_their_marks (marks_in m) rs)) else v.newest) traced
    ∙ ap (λ ms. Some (traced_with ms)) (listed_so app x (x ∷ older) m s (message_identities x.sent.body) rs me said common own known is)
    ∙ ap (newest_crossing app) (sym journal)

-- where nothing has crossed it is the one before
pub newest_still : (app : Application) (w after : heap.World) (old new : WorldView) → after.journal ≡ w.journal → new.tracing ≡ old.tracing → new.newest ≡ old.newest → HasNewest app w old → HasNewest app after new
newest_still app w after old new journal a b h = λ t. b ∙ h (sym a ∙ t) ∙ ap (newest_crossing app) (sym journal)
