-- What becomes of a run that stops.
use Rattle.std.proofs.Common.{◌≡◌, ◌<◌, ◌+◌, ◌-◌, ℕ, true, List, [], ◌∷◌, map, drop, length, get_or, set, Some, None, refl, sym, ap, ◌∙◌, subst, Result, Ok, Err, IfOk}
use Rattle.lava_base.specs.declared.ids.MadeSymbol.{MadeSymbol}
use Rattle.lava_base.specs.declared.ids.Ref.{Ref}
use Rattle.lava_base.specs.declared.marks.Marks.{Marks}
use Rattle.js_text.specs.Identities.{Identity, Of_object}
use Rattle.js_text.specs.Naming.{naming_of}
use Rattle.js_desc.specs.Identities.{ask_identities, reply_identities}
use Rattle.js_desc.specs.declared.ask.Ask.{Ask}
use Rattle.js_desc.specs.declared.reply.Reply.{Reply}
use Rattle.js_crossing.specs.js_run.Acts.{Next}
use Rattle.js_crossing.specs.js_run.Completions.{reply_of}
use Rattle.js_crossing.specs.js_run.Heap as heap
use Rattle.js_crossing.specs.js_run.Heap.{Over_with, cross, goes_on, hands, has_asked, has_run, replies_of}
use Rattle.js_crossing.specs.js_run.Identities.{Replies, Requests, request_identities}
use Rattle.js_crossing.specs.js_run.Journal.{Application, Crossing, asked_party, crossing, end_of, owner_of, put, with_marks_of}
use Rattle.js_crossing.specs.js_run.Local.{own_marks}
use Rattle.js_crossing.specs.js_run.Parties.{Party}
use Rattle.js_crossing.specs.js_run.Runs.{Asks, Imports, Request}
use Rattle.js_crossing.specs.js_machine.Begun.{own_of}
use Rattle.js_crossing.specs.js_machine.Shown.{no_ask}
use Rattle.js_crossing.specs.js_machine.Views.{View, completion_of, nexts_of}
use Rattle.js_crossing.specs.js_machine.declared.asked.Asked.{Asked}
use Rattle.js_crossing.specs.js_machine.declared.asked.Imported.{Imported}
use Rattle.js_crossing.specs.js_machine.declared.frame.Halt.{Halt}
use Rattle.js_crossing.specs.js_machine.declared.frame.Mode.{Mode}
use Rattle.js_crossing.specs.js_machine.declared.stop.Pause.{Pause}
use Rattle.js_crossing.specs.js_machine.declared.stop.Stop.{Stop}
use Rattle.js_crossing.specs.js_machine.declared.stop.Stop.TheVariants as stop
use Rattle.js_world.specs.Crossings.{Follows, GoesOn, HandsOver, HasGiven, IsResumed, IsSent, IsTaken, Rests, RunsHere, newest}
use Rattle.js_crossing.specs.Newest.{ask_references, reply_references, traced_ask, traced_import, traced_reply}
use Rattle.js_crossing.specs.Shows.{makes_none, shows_ask, shows_ref, with_table}
use Rattle.js_world.specs.Worlds.{Counts, Crosses, HasNewest, HasOwn, HasAnswered, HasStopped, IsOver, IsTurnOf, KeepsAnswer, Suits, WorldView, aside, charged, ending_of, import_away, leads_to, noted, party_with, sent, steps_of, waits_of}
use Rattle.js_crossing.specs.declared.ending.Ending.{Ending}
use Rattle.js_crossing.specs.declared.ending.Ending.TheVariants as ending
use Rattle.js_crossing.specs.declared.ending.Turn.{Turn}
use Rattle.js_crossing.specs.declared.ending.Turn.TheVariants as turn
use Rattle.js_crossing.specs.declared.newest.TracedCrossing.{TracedCrossing}
use Rattle.js_world.specs.declared.waiting.Waiting.{Waiting}
use Rattle.js_world.proofs.Kept.{left_spent, left_steps, ran, rests_left, written}
use Rattle.js_crossing.proofs.Newest_laws.{in_ask, in_reply}
use Rattle.js_crossing.proofs.Shown_laws.{ask_shows, reply_shows, shows_all}
use Rattle.js_world.proofs.Traced_laws.{answered_noted, goes_noted, hands_noted, newest_sent, newest_still}

-- the party in the machine, as the application began it and with the things that it has now
abbrev pub party_here : Application → WorldView → Party Ref MadeSymbol
party_here app v = party_with (app.own v.machine.me) v.machine.code (own_of v.machine)

-- what the machine knows once these are shown
abbrev pub known_with : Application → WorldView → List (Identity Ref MadeSymbol) → List (Ref × Marks)
known_with app v xs = with_marks_of (own_marks (naming_of v.machine.me) (party_here app v) xs) v.machine.known

-- ASKS

ask_left : (app : Application) (v : WorldView) (r : Ref) → makes_none v.machine.asked.ask ≡ true
    → shows_ask v.machine.asked.ask (shows_ref r (record v.machine { asked = no_ask })) ≡ with_table (known_with app v (Of_object r ∷ ask_identities v.machine.asked.ask)) (record v.machine { asked = no_ask })
ask_left app v r n =
    let low : View = record v.machine { asked = no_ask } in
    ask_shows v.machine.asked.ask (shows_ref r low) n
    ∙ shows_all (party_here app v) low (Of_object r ∷ ask_identities v.machine.asked.ask) v.machine.known refl

abbrev nexts_here : Application → WorldView → List (Next Ref MadeSymbol)
nexts_here app v = nexts_of (naming_of v.machine.me) app.shared v.machine.code v.machine.frames v.machine.values v.machine.waits

-- a request as it stands in the journal
abbrev request_crossing : Application → List Crossing → WorldView → Request Ref MadeSymbol → ℕ → Crossing
request_crossing app js v o n = crossing v.machine.me (asked_party app js v.machine.me o) (party_here app v) n (Requests o)

-- the machine when a request has left it, and keeps this of what was asked
abbrev request_gone : Application → WorldView → Request Ref MadeSymbol → ℕ → Asked → WorldView
request_gone app v o n a = aside (charged v.machine.me n (record v { machine = with_table (known_with app v (request_identities o)) (record v.machine { asked = a }) }))

-- a request that has left the party is in the journal, and its receiver is to run
pub hands_over : (app : Application) (w after : heap.World) (v : WorldView) (o : Request Ref MadeSymbol) (n : ℕ) (a : Asked) → Suits app v → ((q : ℕ) → (v.machine.me ≡ q → ⊥) → HasOwn app w v q) → Counts app w v → v.machine.me < length v.steps
    → after ≡ has_asked app v.machine.me w o (party_here app v) (nexts_here app v) n true → HandsOver app after (request_gone app v o n a) (asked_party app w.journal v.machine.me o) o
hands_over app w after v o n a s others c there is =
    let p = v.machine.me in
    let own = party_here app v in
    let x = request_crossing app w.journal v o n in
    let ks = (p, nexts_here app v) ∷ w.stack in
    let js = x ∷ w.journal in
    let world = written p own n ks js (hands app js (put p own w.own) (asked_party app w.journal p o) o) w in
    let left = request_gone app v o n a in
    let so : HandsOver app world left (asked_party app w.journal p o) o = record {
      rests = rests_left app w v [] [] [] a v.machine.answer (known_with app v (request_identities o)) left.stack n own ks js world.control s others c there refl
          (ap (λ l. (p, nexts_here app v) ∷ l) c.stack) (ap (with_marks_of x.sent.marks) c.known);
      control = refl;
    } in
    subst (λ y. HandsOver app y left (asked_party app w.journal p o) o) (sym is) so

hands_ask : (app : Application) (w after : heap.World) (v : WorldView) (r : Ref) (n : ℕ) → HasStopped app w v (stop.Sent r n) after → makes_none v.machine.asked.ask ≡ true → v.machine.me < length v.steps
    → HandsOver app after (sent r n v) (owner_of r) (Asks r v.machine.asked.ask)
hands_ask app w after v r n h none there =
    let o : Request Ref MadeSymbol = Asks r v.machine.asked.ask in
    let is : sent r n v ≡ request_gone app v o n no_ask = ap (λ m. aside (charged v.machine.me n (record v { machine = m }))) (ask_left app v r none) in
    subst (λ y. HandsOver app after y (owner_of r) o) (sym is) (hands_over app w after v o n no_ask h.suits h.others h.counts there h.comes)

pub sends : (r : Ref) (n : ℕ) (old new : WorldView) (x : Ask Ref MadeSymbol) → x ≡ old.machine.asked.ask → makes_none old.machine.asked.ask ≡ true → old.machine.me < length old.steps → new ≡ sent r n old → IsSent r n old new x
sends r n old new x e none there is = record {
  sends = λ app w after h.
      subst (λ y. HandsOver app after new (owner_of r) (Asks r y)) (sym e) (subst (λ y. HandsOver app after y (owner_of r) (Asks r old.machine.asked.ask)) (sym is) (hands_ask app w after old r n h none there));
  empty = ap (λ (v : WorldView). v.machine.frames) is;
  budget = ap (λ (v : WorldView). v.budget) is;
}

-- the ask that has left is the newest crossing
newest_asked : (app : Application) (w after : heap.World) (old mid : WorldView) (r : Ref) (n : ℕ) (x : Ask Ref MadeSymbol) → HasStopped app w old (stop.Sent r n) after → x ≡ old.machine.asked.ask → makes_none old.machine.asked.ask ≡ true → mid ≡ sent r n old
    → HasNewest app after (noted (traced_ask mid.machine r x) mid)
newest_asked app w after old mid r n x h e none is =
    let a : Ask Ref MadeSymbol = old.machine.asked.ask in
    let o : Request Ref MadeSymbol = Asks r a in
    let c : Crossing = request_crossing app w.journal old o n in
    let g : WorldView = request_gone app old o n no_ask in
    let gone : mid ≡ g = is ∙ ap (λ m. aside (charged old.machine.me n (record old { machine = m }))) (ask_left app old r none) in
    let so : HasNewest app after (noted (traced_ask g.machine r a) g) =
    newest_sent app after c w.journal g.machine (party_here app old) (r ∷ ask_references a) g (ap (λ (y : heap.World). y.journal) h.comes) refl refl h.suits.objects refl (ap (with_marks_of c.sent.marks) h.counts.known) (ap (λ l. r ∷ l) (in_ask a none)) in
    subst (λ (v : WorldView). HasNewest app after (noted (traced_ask v.machine r x) v)) (sym gone) (subst (λ y. HasNewest app after (noted (traced_ask g.machine r y) g)) (sym e) so)

sent_on : (r : Ref) (n : ℕ) (old mid kept new : WorldView) (x : Ask Ref MadeSymbol) (m : Mode) → x ≡ old.machine.asked.ask → makes_none old.machine.asked.ask ≡ true → mid ≡ sent r n old → IsSent r n old mid x
    → kept ≡ noted (traced_ask mid.machine r x) mid → IsTaken (owner_of r) (Asks r x) kept new m → Follows (stop.Sent r n) old new (turn.Runs m)
sent_on r n old mid kept new x m e none is s keeps k = record {
  follows = λ app w after h.
      k.takes app after (subst (λ v. HandsOver app after v (owner_of r) (Asks r x)) (sym keeps) (hands_noted app after (traced_ask mid.machine r x) mid (owner_of r) (Asks r x) (s.sends app w after h)))
      (subst (λ v. HasNewest app after v) (sym keeps) (newest_asked app w after old mid r n x h e none is));
  budget = k.budget ∙ ap (λ (v : WorldView). v.budget) keeps ∙ s.budget;
}

-- IMPORTS

hands_import : (app : Application) (w after : heap.World) (v : WorldView) (n q : ℕ) → HasStopped app w v (stop.Imports n) after → leads_to v v.machine.me v.machine.imported.link ≡ Some q → v.machine.me < length v.steps
    → HandsOver app after (import_away n v) q (Imports v.machine.imported.link v.machine.imported.path)
hands_import app w after v n q h e there =
    let o : Request Ref MadeSymbol = Imports v.machine.imported.link v.machine.imported.path in
    subst (λ i. HandsOver app after (import_away n v) i o) (h.suits.leads v.machine.me v.machine.imported.link q e) (hands_over app w after v o n v.machine.asked h.suits h.others h.counts there h.comes)

-- the import that has left is the newest crossing
newest_imported : (app : Application) (w after : heap.World) (old mid : WorldView) (n q : ℕ) (x : Imported) → HasStopped app w old (stop.Imports n) after → x ≡ old.machine.imported → mid ≡ import_away n old → leads_to old old.machine.me old.machine.imported.link ≡ Some q
    → HasNewest app after (noted (traced_import mid.machine.me q x.link x.path) mid)
newest_imported app w after old mid n q x h e is led =
    let p = old.machine.me in
    let i : Imported = old.machine.imported in
    let o : Request Ref MadeSymbol = Imports i.link i.path in
    let g : WorldView = import_away n old in
    let so : HasNewest app after (noted (traced_import p (app.links p i.link) i.link i.path) g) =
    newest_sent app after (request_crossing app w.journal old o n) w.journal g.machine (party_here app old) [] g (ap (λ (y : heap.World). y.journal) h.comes) refl refl h.suits.objects refl h.counts.known refl in
    let there : HasNewest app after (noted (traced_import p q i.link i.path) g) = subst (λ t. HasNewest app after (noted (traced_import p t i.link i.path) g)) (h.suits.leads p i.link q led) so in
    subst (λ (v : WorldView). HasNewest app after (noted (traced_import v.machine.me q x.link x.path) v)) (sym is) (subst (λ (y : Imported). HasNewest app after (noted (traced_import p q y.link y.path) g)) (sym e) there)

pub imports_on : (n q from : ℕ) (old mid kept new : WorldView) (x : Imported) (m : Mode) → x ≡ old.machine.imported → old.machine.me < length old.steps → mid ≡ import_away n old
    → leads_to mid mid.machine.me x.link ≡ Some q → from ≡ mid.machine.me → kept ≡ noted (traced_import from q x.link x.path) mid → IsTaken q (Imports x.link x.path) kept new m → Follows (stop.Imports n) old new (turn.Runs m)
imports_on n q from old mid kept new x m e there is to here keeps k =
    let led : leads_to old old.machine.me old.machine.imported.link ≡ Some q = (λ j. leads_to (sym is j) (sym is j).machine.me (sym e j).link) ∙ to in
    let y : TracedCrossing = traced_import mid.machine.me q x.link x.path in
    let noted_so : kept ≡ noted y mid = keeps ∙ ap (λ p. noted (traced_import p q x.link x.path) mid) here in
    record {
      follows = λ app w after h.
          (let gone : HandsOver app after mid q (Imports x.link x.path) =
          subst (λ (i : Imported). HandsOver app after mid q (Imports i.link i.path)) (sym e) (subst (λ v. HandsOver app after v q (Imports old.machine.imported.link old.machine.imported.path)) (sym is) (hands_import app w after old n q h led there)) in
          k.takes app after (subst (λ v. HandsOver app after v q (Imports x.link x.path)) (sym noted_so) (hands_noted app after y mid q (Imports x.link x.path) gone))
          (subst (λ v. HasNewest app after v) (sym noted_so) (newest_imported app w after old mid n q x h e is led)));
      budget = k.budget ∙ ap (λ (v : WorldView). v.budget) keeps ∙ ap (λ (v : WorldView). v.budget) is;
    }

-- REPLIES

-- the machine when a reply has left it
abbrev replied : Application → Reply Ref MadeSymbol → ℕ → (old : WorldView) → WorldView → WorldView
replied app r n old new = charged old.machine.me n (record old { machine = with_table (known_with app old (reply_identities r)) (record old.machine { values = new.machine.values; answer = new.machine.answer }) })

reply_left : (app : Application) (r : Reply Ref MadeSymbol) (n : ℕ) (old new : WorldView) (g : HasGiven r n old new)
    → new ≡ charged old.machine.me n (record old { machine = with_table (known_with app old (reply_identities r)) (record old.machine { values = g.values; answer = g.answer }) })
reply_left app r n old new g =
    let low : View = record old.machine { values = g.values; answer = g.answer } in
    g.given ∙ ap (λ m. charged old.machine.me n (record old { machine = m })) (reply_shows r low ∙ shows_all (party_here app old) low (reply_identities r) old.machine.known refl)

-- the reply as it stands in the journal
abbrev reply_crossing : Application → WorldView → Reply Ref MadeSymbol → ℕ → ℕ → Crossing
reply_crossing app v r n q = crossing v.machine.me q (party_here app v) n (Replies r)

-- the world that has the reply, with what was on its stack
abbrev with_reply : Application → heap.World → WorldView → Reply Ref MadeSymbol → ℕ → List (ℕ × List (Next Ref MadeSymbol)) → heap.World
with_reply app w v r n ks = replies_of app (reply_crossing app v r n) r ks (heap.with_own v.machine.me (party_here app v) (heap.charged v.machine.me n w))

came : (app : Application) (w after : heap.World) (v : WorldView) (r : Reply Ref MadeSymbol) (m : Mode) (n : ℕ) (bs : List Waiting) → HasStopped app w v (stop.Gave m n) after → r ≡ reply_of (completion_of v.machine m) → v.stack ≡ bs
    → after ≡ with_reply app w v r n (map (waits_of app v.machine.code) bs)
came app w after v r m n bs h e d =
    h.comes ∙ ap (λ y. with_reply app w v y n w.stack) (sym e) ∙ ap (with_reply app w v r n) (h.counts.stack ∙ ap (map (waits_of app v.machine.code)) d)

-- the reply that has left is the newest crossing
newest_replied : (app : Application) (w after : heap.World) (old mid v : WorldView) (r : Reply Ref MadeSymbol) (n q : ℕ) → Suits app old → Counts app w old → HasGiven r n old mid → after.journal ≡ reply_crossing app old r n q ∷ w.journal
    → HasNewest app after (noted (traced_reply mid.machine q r) v)
newest_replied app w after old mid v r n q s c g j =
    let x : Crossing = reply_crossing app old r n q in
    let left : View = with_table (known_with app old (reply_identities r)) (record old.machine { values = g.values; answer = g.answer }) in
    let same : mid.machine ≡ left = ap (λ (u : WorldView). u.machine) (reply_left app r n old mid g) in
    let so : HasNewest app after (noted (traced_reply left q r) v) =
    newest_sent app after x w.journal left (party_here app old) (reply_references r) v j refl refl s.objects refl (ap (with_marks_of x.sent.marks) c.known) (in_reply r) in
    subst (λ m. HasNewest app after (noted (traced_reply m q r) v)) (sym same) so

-- the end of a run
over_with : (app : Application) (w after : heap.World) (v new : WorldView) (p n : ℕ) (e : Ending) → Counts app w v → p < length v.steps → new.steps ≡ set v.steps p n → new.spent ≡ v.spent + (n - steps_of v p)
    → ((q : ℕ) → after.steps q ≡ put p n w.steps q) → after.spent ≡ w.spent + (n - w.steps p) → after.control ≡ Over_with (ending_of e) → KeepsAnswer app after new e → HasNewest app after new → IsOver app after new e
over_with app w after v new p n e c l s t a b d k x = record {
  answer = k;
  steps = λ q g. a q ∙ left_steps app w v p n c l q (subst (λ xs. q < length xs) s g) ∙ ap (λ xs. get_or xs q 0) (sym s);
  spent = b ∙ left_spent app w v p n c l ∙ sym t;
  newest = x;
  control = d;
}

nothing : (bs : List Waiting) → newest bs ≡ None → bs ≡ []
nothing [] e = refl
nothing (b ∷ bs) e = absurd (cc e)

keeps : (app : Application) (w : heap.World) (v : WorldView) (e : Ending) → HasAnswered app w v → KeepsAnswer app w v e
keeps app w v ending.Done x = x
keeps app w v ending.Uncaught x = x
keeps app w v (ending.Budget p) x = tt
keeps app w v (ending.Fault p h) x = tt

-- the answer to the host's import is kept
answered : (app : Application) (w after : heap.World) (old mid new : WorldView) (r : Reply Ref MadeSymbol) (m : Mode) (n : ℕ) → HasStopped app w old (stop.Gave m n) after → HasGiven r n old mid
    → r ≡ reply_of (completion_of old.machine m) → old.machine.me < length old.steps → old.stack ≡ [] → new ≡ record mid { stack = drop 1 mid.stack; last = Some r } → HasAnswered app after new
answered app w after old mid new r m n h g d there empty is =
    let p = old.machine.me in
    let own = party_here app old in
    let x = reply_crossing app old r n 0 in
    let js = x ∷ w.journal in
    let world = written p own n w.stack js (Over_with (end_of r)) w in
    let left : WorldView = record (charged p n (record old { machine = with_table (known_with app old (reply_identities r)) (record old.machine { values = g.values; answer = g.answer }) })) { stack = old.stack } in
    let none : drop 1 mid.stack ≡ old.stack = ap (λ (v : WorldView). drop 1 v.stack) g.given ∙ ap (λ l. drop 1 l) empty ∙ sym empty in
    let still : new ≡ record left { last = Some r } = is ∙ ap (λ l. record mid { stack = l; last = Some r }) none ∙ ap (λ (v : WorldView). record v { stack = old.stack; last = Some r }) (reply_left app r n old mid g) in
    let rests : Rests app world left = rests_left app w old old.machine.frames g.values old.machine.waits old.machine.asked g.answer (known_with app old (reply_identities r)) old.stack n own w.stack js world.control h.suits h.others h.counts there refl
    h.counts.stack (ap (with_marks_of x.sent.marks) h.counts.known) in
    let s = rests.suits in
    let so : HasAnswered app world (record left { last = Some r }) = record {
      suits = record { reads = s.reads; objects = s.objects; templates = s.templates; me = s.me; links = s.links; meters = s.meters; leads = s.leads };
      own = rests.own;
      counts = record { steps = rests.counts.steps; spent = rests.counts.spent; stack = rests.counts.stack; known = rests.counts.known };
      last = refl;
    } in
    subst (λ y. HasAnswered app y new) (sym (came app w after old r m n [] h d empty)) (subst (λ v. HasAnswered app world v) (sym still) so)

ends_so : (r : Reply Ref MadeSymbol) (m : Mode) (n : ℕ) (old mid new : WorldView) (e : Ending) → HasGiven r n old mid → r ≡ reply_of (completion_of old.machine m) → old.machine.me < length old.steps → newest mid.stack ≡ None
    → new ≡ noted (traced_reply mid.machine 0 r) (record mid { stack = drop 1 mid.stack; last = Some r }) → ending_of e ≡ end_of r → Follows (stop.Gave m n) old new (turn.Over e)
ends_so r m n old mid new e g d there none is same =
    let y : TracedCrossing = traced_reply mid.machine 0 r in
    let low : WorldView = record mid { stack = drop 1 mid.stack; last = Some r } in
    let p = old.machine.me in
    let empty : old.stack ≡ [] = ap (λ (v : WorldView). v.stack) (sym g.given) ∙ nothing mid.stack none in
    record {
      follows = λ app w after h.
          (let c : after ≡ with_reply app w old r n [] = came app w after old r m n [] h d empty in
          over_with app w after old new p n e h.counts there
          (ap (λ (v : WorldView). v.steps) is ∙ ap (λ (v : WorldView). v.steps) g.given) (ap (λ (v : WorldView). v.spent) is ∙ ap (λ (v : WorldView). v.spent) g.given)
          (λ q. ap (λ (y : heap.World). y.steps q) c) (ap (λ (y : heap.World). y.spent) c) (ap (λ (y : heap.World). y.control) c ∙ ap Over_with (sym same))
          (keeps app after new e (subst (λ v. HasAnswered app after v) (sym is) (answered_noted app after y low (answered app w after old mid low r m n h g d there empty refl))))
          (subst (λ v. HasNewest app after v) (sym is) (newest_replied app w after old mid low r n 0 h.suits h.counts g (ap (λ (v : heap.World). v.journal) c))));
      budget = ap (λ (v : WorldView). v.budget) is ∙ ap (λ (v : WorldView). v.budget) g.given;
    }

pub ends_with : (r : Reply Ref MadeSymbol) (m : Mode) (n : ℕ) (old mid low kept new : WorldView) (t : Turn) → HasGiven r n old mid → r ≡ reply_of (completion_of old.machine m) → old.machine.me < length old.steps → newest mid.stack ≡ None
    → low ≡ record mid { stack = drop 1 mid.stack } → kept ≡ noted (traced_reply low.machine 0 r) low → IsTurnOf t (end_of r) → new ≡ record kept { last = Some r } → Follows (stop.Gave m n) old new t
ends_with r m n old mid low kept new t g d there none is keeps x last =
    let so : new ≡ noted (traced_reply mid.machine 0 r) (record mid { stack = drop 1 mid.stack; last = Some r }) =
    last ∙ ap (λ (v : WorldView). record v { last = Some r }) keeps ∙ ap (λ (v : WorldView). noted (traced_reply v.machine 0 r) (record v { last = Some r })) is in
    subst (Follows (stop.Gave m n) old new) (sym x.is) (ends_so r m n old mid new x.ending g d there none so x.same)

first_off : (bs : List Waiting) (b : Waiting) → newest bs ≡ Some b → bs ≡ b ∷ drop 1 bs
first_off [] b e = cc
first_off (c ∷ bs) b e = let same : c ≡ b = cc in ap (λ x. x ∷ bs) same

-- the newest body that waits is to go on
goes_back : (app : Application) (w after : heap.World) (old mid new : WorldView) (r : Reply Ref MadeSymbol) (m : Mode) (n : ℕ) (b : Waiting) → HasStopped app w old (stop.Gave m n) after → HasGiven r n old mid
    → r ≡ reply_of (completion_of old.machine m) → old.machine.me < length old.steps → newest mid.stack ≡ Some b → new ≡ record mid { stack = drop 1 mid.stack } → GoesOn app after new b r
goes_back app w after old mid new r m n b h g d there some is =
    let p = old.machine.me in
    let own = party_here app old in
    let code = old.machine.code in
    let bs = drop 1 mid.stack in
    let x = reply_crossing app old r n b.party in
    let js = x ∷ w.journal in
    let k = waits_of app code b in
    let world = written p own n (map (waits_of app code) bs) js (goes_on app js (put p own w.own) k.0 k.1 r) w in
    let full : old.stack ≡ b ∷ bs = ap (λ (v : WorldView). v.stack) (sym g.given) ∙ first_off mid.stack b some in
    let left : WorldView = record (charged p n (record old { machine = with_table (known_with app old (reply_identities r)) (record old.machine { values = g.values; answer = g.answer }) })) { stack = bs } in
    let still : new ≡ left = is ∙ ap (λ (v : WorldView). record v { stack = bs }) (reply_left app r n old mid g) in
    let so : GoesOn app world left b r = record {
      rests = rests_left app w old old.machine.frames g.values old.machine.waits old.machine.asked g.answer (known_with app old (reply_identities r)) bs n own (map (waits_of app code) bs) js world.control h.suits h.others h.counts there refl
          refl (ap (with_marks_of x.sent.marks) h.counts.known);
      control = refl;
    } in
    subst (λ y. GoesOn app y new b r) (sym (came app w after old r m n (b ∷ bs) h d full)) (subst (λ v. GoesOn app world v b r) (sym still) so)

pub gives_back : (r : Reply Ref MadeSymbol) (m : Mode) (n : ℕ) (b : Waiting) (old mid low new : WorldView) (t : Mode) → HasGiven r n old mid → r ≡ reply_of (completion_of old.machine m) → old.machine.me < length old.steps → newest mid.stack ≡ Some b
    → low ≡ record mid { stack = drop 1 mid.stack } → IsResumed b r (noted (traced_reply low.machine b.party r) low) new t → Follows (stop.Gave m n) old new (turn.Runs t)
gives_back r m n b old mid low new t g d there some is k =
    let y : TracedCrossing = traced_reply low.machine b.party r in
    let full : old.stack ≡ b ∷ drop 1 mid.stack = ap (λ (v : WorldView). v.stack) (sym g.given) ∙ first_off mid.stack b some in
    record {
      follows = λ app w after h.
          (let came_so = came app w after old r m n (b ∷ drop 1 mid.stack) h d full in
          k.takes app after (goes_noted app after y low b r (goes_back app w after old mid low r m n b h g d there some is))
          (subst (λ x. HasNewest app after (noted (traced_reply x b.party r) low)) (sym (ap (λ (v : WorldView). v.machine) is)) (newest_replied app w after old mid low r n b.party h.suits h.counts g (ap (λ (v : heap.World). v.journal) came_so))));
      budget = k.budget ∙ ap (λ (v : WorldView). v.budget) is ∙ ap (λ (v : WorldView). v.budget) g.given;
    }

-- ENDS

pub ends_short : (n : ℕ) (old new : WorldView) → old.machine.me < length old.steps → new ≡ charged old.machine.me n old → Follows (stop.Short n) old new (turn.Over (ending.Budget old.machine.me))
ends_short n old new there is = record {
  follows = λ app w after h. over_with app w after old new old.machine.me n (ending.Budget old.machine.me) h.counts there (ap (λ (v : WorldView). v.steps) is) (ap (λ (v : WorldView). v.spent) is)
      (λ q. ap (λ (y : heap.World). y.steps q) h.comes) (ap (λ (y : heap.World). y.spent) h.comes) (ap (λ (y : heap.World). y.control) h.comes) tt
      (newest_still app w after old new (ap (λ (y : heap.World). y.journal) h.comes) (ap (λ (v : WorldView). v.tracing) is) (ap (λ (v : WorldView). v.newest) is) h.newest);
  budget = ap (λ (v : WorldView). v.budget) is;
}

pub ends_stopped : (n : ℕ) (k : Halt) (old new : WorldView) → old.machine.me < length old.steps → new ≡ charged old.machine.me n old → Follows (stop.Stopped k n) old new (turn.Over (ending.Fault old.machine.me k))
ends_stopped n k old new there is = record {
  follows = λ app w after h. over_with app w after old new old.machine.me n (ending.Fault old.machine.me k) h.counts there (ap (λ (v : WorldView). v.steps) is) (ap (λ (v : WorldView). v.spent) is)
      (λ q. ap (λ (y : heap.World). y.steps q) h.comes) (ap (λ (y : heap.World). y.spent) h.comes) (ap (λ (y : heap.World). y.control) h.comes) tt
      (newest_still app w after old new (ap (λ (y : heap.World). y.journal) h.comes) (ap (λ (v : WorldView). v.tracing) is) (ap (λ (v : WorldView). v.newest) is) h.newest);
  budget = ap (λ (v : WorldView). v.budget) is;
}

-- the outside is asked
pub asks_outside : (s : Stop) (p : Pause) (v : WorldView) → s ≡ stop.Outside p → Follows s v v (turn.Asks p)
asks_outside s p v e = record { follows = λ app w after h. subst (λ y. HasStopped app w v y after) e h; budget = refl }

-- A CROSSING

pub crossed : (m : Mode) (s : Stop) (t : Turn) (old mid new : WorldView) → RunsHere m old mid s → Follows s mid new t → Crosses old m new t
crossed m s t old mid new r f = record {
  crosses = λ app w x. f.follows app w (cross app old.budget w w.control) (ran app w old mid m s x r);
  budget = f.budget ∙ ap (λ (v : WorldView). v.budget) r.rest;
}

-- WHAT THE CODE COMES TO

pub sent_so : (m : Mode) (r : Ref) (n : ℕ) (old mid kept new : WorldView) (x : Ask Ref MadeSymbol) → x ≡ old.machine.asked.ask → makes_none old.machine.asked.ask ≡ true → old.machine.me < length old.steps → mid ≡ sent r n old
    → kept ≡ noted (traced_ask mid.machine r x) mid → IsTaken (owner_of r) (Asks r x) kept new m → Follows (stop.Sent r n) old new (turn.Runs m)
sent_so m r n old mid kept new x e none there is keeps h = sent_on r n old mid kept new x m e none is (sends r n old mid x e none there is) keeps h

pub crossed_so : {E : Type 0} (k : Result Turn E) (m : Mode) (s : Stop) (old mid new : WorldView) → RunsHere m old mid s → IfOk k (Follows s mid new) → IfOk k (Crosses old m new)
crossed_so (Ok t) m s old mid new r h = crossed m s t old mid new r h
crossed_so (Err z) m s old mid new r h = tt
