-- The machine turns to a party, and stands where the world lets it run.
use Rattle.std.proofs.Common.{◌≡◌, ◌<◌, ℕ, nat_eq, length, get_or, set, refl, sym, ap, ◌∙◌, subst, if◌then◌else◌, Result, Ok, Err, IfOk, OnOk, List}
use Rattle.std.proofs.lemmas.List.{get_or-set_other, get_or-set_same, length-set}
use Rattle.lava_base.specs.declared.ids.MadeSymbol.{MadeSymbol}
use Rattle.lava_base.specs.declared.ids.Ref.{Ref}
use Rattle.js_text.specs.Naming.{naming_of}
use Rattle.js_desc.specs.declared.ask.Ask.{Ask}
use Rattle.js_desc.specs.declared.reply.Reply.{Reply}
use Rattle.js_crossing.specs.js_run.Acts.{Give}
use Rattle.js_crossing.specs.js_run.Completions.{Replied}
use Rattle.js_crossing.specs.js_run.Heap as heap
use Rattle.js_crossing.specs.js_run.Heap.{Control, Runs}
use Rattle.js_crossing.specs.js_run.Journal.{Application, env_of, owner_of, table_of}
use Rattle.js_crossing.specs.js_run.Local.{serves}
use Rattle.js_crossing.specs.js_run.Parties.{Party}
use Rattle.js_crossing.specs.js_run.Requests.{is_link}
use Rattle.js_crossing.specs.js_run.Runs.{Asks, Gives, Imports, Point, Request, settle}
use Rattle.js_crossing.specs.js_machine.Begun.{Left, Own, own_of, with_left}
use Rattle.js_crossing.specs.js_machine.Evaluated.{IsImported}
use Rattle.js_crossing.specs.js_machine.Served.{IsServed}
use Rattle.js_crossing.specs.js_machine.Steps.{Keeps, LeadsTo, point_of}
use Rattle.js_crossing.specs.js_machine.Views.{Around, View, fitting, nexts_of, party_of}
use Rattle.js_crossing.specs.js_machine.declared.frame.Mode.{Mode}
use Rattle.js_world.specs.Crossings.{GoesOn, HandsOver, IsResumed, IsTaken, Replies, Rests}
use Rattle.js_world.specs.Worlds.{HasNewest, Stands, WorldView, around, exchanged, no_own, own_here, party_with, turned}
use Rattle.js_world.specs.declared.waiting.Waiting.{Waiting}
use Rattle.js_world.proofs.Kept.{at_home, fits_here, kept_counts, kept_own, kept_suits}
use Rattle.js_crossing.proofs.Shown_laws.{choose}

-- EACH HAS ITS THINGS

-- after the first exchange each place has the things of its party
laid_down : (v : WorldView) (x : ℕ) → v.machine.me < length v.others → get_or (set v.others v.machine.me (own_of v.machine)) x no_own ≡ own_here v x
laid_down v x l =
    let p = v.machine.me in
    choose p x (λ b. get_or (set v.others p (own_of v.machine)) x no_own ≡ (if b then own_of v.machine else get_or v.others x no_own))
    (λ e. ap (λ i. get_or (set v.others p (own_of v.machine)) i no_own) (sym e) ∙ get_or-set_same v.others p (own_of v.machine) no_own l)
    (λ ne. get_or-set_other v.others p x (own_of v.machine) no_own (λ e. ne (sym e)))

pub own_turned : (q : ℕ) (v : WorldView) (x : ℕ) → (own_here v q).me ≡ q → v.machine.me < length v.others → own_here (turned q v) x ≡ own_here v x
own_turned q v x m l =
    let low = exchanged v.machine.me v in
    let own = get_or low.others q no_own in
    let is : own.me ≡ q = ap (λ (o : Own). o.me) (laid_down v q l) ∙ m in
    (λ j. if nat_eq (is j) x then own else get_or (set low.others q (own_of low.machine)) x no_own)
    ∙ choose q x (λ b. (if b then own else get_or (set low.others q (own_of low.machine)) x no_own) ≡ own_here v x)
    (λ e. laid_down v q l ∙ ap (own_here v) e)
    (λ ne. get_or-set_other low.others q x (own_of low.machine) no_own (λ e. ne (sym e)) ∙ laid_down v x l)

pub me_turned : (q : ℕ) (v : WorldView) → (own_here v q).me ≡ q → v.machine.me < length v.others → (turned q v).machine.me ≡ q
me_turned q v m l = ap (λ (o : Own). o.me) (laid_down v q l) ∙ m

many : (q : ℕ) (v : WorldView) → length (turned q v).others ≡ length v.others
many q v = length-set (exchanged v.machine.me v).others q (own_of (exchanged v.machine.me v).machine) ∙ length-set v.others v.machine.me (own_of v.machine)

pub rests_turned : (app : Application) (w : heap.World) (q : ℕ) (v : WorldView) → Rests app w v → v.machine.me < length v.others → q < length v.others → Rests app w (turned q v)
rests_turned app w q v r l g =
    let m = r.suits.me q g in
    let fewer : (x : ℕ) → x < length (turned q v).others → x < length v.others = λ x h. subst (λ k. x < k) (many q v) h in
    record {
      suits = record {
        reads = r.suits.reads;
        objects = r.suits.objects;
        templates = r.suits.templates;
        me = λ x h. ap (λ (o : Own). o.me) (own_turned q v x m l) ∙ r.suits.me x (fewer x h);
        links = λ x h k. ap (λ (o : Own). is_link k o.allowed) (own_turned q v x m l) ∙ r.suits.links x (fewer x h) k;
        meters = λ x h. r.suits.meters x (fewer x h);
        leads = r.suits.leads;
      };
      own = λ x h. r.own x (fewer x h) ∙ ap (party_with (app.own x) v.machine.code) (sym (own_turned q v x m l));
      counts = record { steps = r.counts.steps; spent = r.counts.spent; stack = r.counts.stack; known = r.counts.known };
    }

-- what is traced stays
newest_turned : (app : Application) (w : heap.World) (old low v : WorldView) → low ≡ v → v.tracing ≡ old.tracing → v.newest ≡ old.newest → HasNewest app w old → HasNewest app w low
newest_turned app w old low v e a b h =
    let so : HasNewest app w v = λ t. b ∙ h (sym a ∙ t) in
    subst (λ x. HasNewest app w x) (sym e) so

-- THE MACHINE RUNS

own_self : (app : Application) (w : heap.World) (v : WorldView) → Rests app w v → v.machine.me < length v.others → w.own v.machine.me ≡ party_with (app.own v.machine.me) v.machine.code (own_of v.machine)
own_self app w v r l =
    let me = v.machine.me in
    r.own me l ∙ ap (party_with (app.own me) v.machine.code) (at_home me me (own_of v.machine) (get_or v.others me no_own) refl)

-- it stands where the world lets the party in it run
stands_there : (app : Application) (w : heap.World) (v : WorldView) (n : View) (m : Mode) (f : Around → Point Ref MadeSymbol) (r : Rests app w v) → HasNewest app w v → v.machine.me < length v.others → Keeps v.machine n
    → ((a : Around) → point_of (fitting v.machine a) n m ≡ f (fitting v.machine a)) → w.control ≡ Runs v.machine.me (f (around app r.suits.reads w.journal v.machine.me)) → Stands app w (record v { machine = n }) m
stands_there app w v n m f r x l k h c =
    let me = v.machine.me in
    let a = around app r.suits.reads w.journal me in
    let there : point_of a n m ≡ f a = subst (λ (b : Around). point_of b n m ≡ f b) (fits_here app w v r.suits l r.counts.known) (h a) in
    record {
      suits = kept_suits app v n k r.suits;
      others = λ q ne. (let apart : me ≡ q → ⊥ = λ e. ne (k.0 ∙ e) in kept_own app w v n q k apart (r.own q));
      counts = kept_counts app w v n k r.counts;
      newest = x;
      control = c ∙ ap (Runs me) (sym there) ∙ (λ j. Runs (sym k.0 j) (point_of (around app r.suits.reads w.journal (sym k.0 j)) n m));
    }

-- the machine runs what its party runs for a request
abbrev pub StandsServing : Request Ref MadeSymbol → (old new : View) → Mode → Type 0
StandsServing o old new m = (a : Around) → let b = fitting old a in point_of b new m ≡ serves (naming_of old.me) b.shared b.env (party_of b old) o

serves_there : (app : Application) (w : heap.World) (old low : WorldView) (n : View) (q : ℕ) (o : Request Ref MadeSymbol) (m : Mode) → HandsOver app w old q o → HasNewest app w old → old.machine.me < length old.others → q < length old.others → low ≡ turned q old
    → Keeps low.machine n → StandsServing o low.machine n m → Stands app w (record low { machine = n }) m
serves_there app w old low n q o m h x l g e k s =
    let rests : Rests app w low = subst (λ v. Rests app w v) (sym e) (rests_turned app w q old h.rests l g) in
    let me : low.machine.me ≡ q = ap (λ (v : WorldView). v.machine.me) e ∙ me_turned q old (h.rests.suits.me q g) l in
    let size : length low.others ≡ length old.others = ap (λ (v : WorldView). length v.others) e ∙ many q old in
    let there : low.machine.me < length low.others = subst (λ i. low.machine.me < i) (sym size) (subst (λ i. i < length old.others) (sym me) g) in
    let runs : ℕ → Party Ref MadeSymbol → Control = λ i p. Runs i (serves (naming_of i) app.shared (env_of app (table_of app w.journal) i) p o) in
    stands_there app w low n m (λ b. serves (naming_of low.machine.me) b.shared b.env (party_of b low.machine) o) rests (newest_turned app w old low (turned q old) e refl refl x) there k s
    (h.control ∙ (λ j. runs (sym me j) (w.own (sym me j))) ∙ ap (runs low.machine.me) (own_self app w low rests there))

-- a request is taken by the party that it is for
pub taken : (old low new : WorldView) (q : ℕ) (o : Request Ref MadeSymbol) (m : Mode) → old.machine.me < length old.others → q < length old.others → low ≡ turned q old → Keeps low.machine new.machine → StandsServing o low.machine new.machine m
    → new ≡ record low { machine = new.machine } → IsTaken q o old new m
taken old low new q o m l g e k s is =
    subst (λ v. IsTaken q o old v m) (sym is)
    (record { takes = λ app w h x. serves_there app w old low new.machine q o m h x l g e k s; budget = ap (λ (v : WorldView). v.budget) e })

-- the machine with a body that it goes on with
abbrev with_body : Left → WorldView → WorldView
with_body b v = record v { machine = with_left b v.machine }

rests_with : (app : Application) (w : heap.World) (b : Left) (v : WorldView) → Rests app w v → Rests app w (with_body b v)
rests_with app w b v r = record {
  suits = record { reads = r.suits.reads; objects = r.suits.objects; templates = r.suits.templates; me = r.suits.me; links = r.suits.links; meters = r.suits.meters; leads = r.suits.leads };
  own = r.own;
  counts = record { steps = r.counts.steps; spent = r.counts.spent; stack = r.counts.stack; known = r.counts.known };
}

goes_there : (app : Application) (w : heap.World) (old low : WorldView) (n : View) (b : Waiting) (r : Reply Ref MadeSymbol) (m : Mode) → GoesOn app w old b r → HasNewest app w old → old.machine.me < length old.others → b.party < length old.others
    → low ≡ with_body b.left (turned b.party old) → LeadsTo (λ a. Give (Replied r) (party_of a low.machine)) low.machine n m → Stands app w (record low { machine = n }) m
goes_there app w old low n b r m h x l g e s =
    let q = b.party in
    let rests : Rests app w low = subst (λ v. Rests app w v) (sym e) (rests_with app w b.left (turned q old) (rests_turned app w q old h.rests l g)) in
    let me : low.machine.me ≡ q = ap (λ (v : WorldView). v.machine.me) e ∙ me_turned q old (h.rests.suits.me q g) l in
    let size : length low.others ≡ length old.others = ap (λ (v : WorldView). length v.others) e ∙ many q old in
    let there : low.machine.me < length low.others = subst (λ k. low.machine.me < k) (sym size) (subst (λ k. k < length old.others) (sym me) g) in
    let goes : (a : Around) → Party Ref MadeSymbol → Point Ref MadeSymbol =
    λ a p. settle (naming_of low.machine.me) a.shared a.env (nexts_of (naming_of low.machine.me) a.shared low.machine.code low.machine.frames low.machine.values low.machine.waits) (Gives (Replied r) p) in
    stands_there app w low n m (λ a. goes a (party_of a low.machine)) rests (newest_turned app w old low (with_body b.left (turned q old)) e refl refl x) there s.keeps s.leads
    (h.control
    ∙ (λ j. Runs (sym me j) (settle (naming_of (sym me j)) app.shared (env_of app (table_of app w.journal) (sym me j))
    (nexts_of (naming_of (sym me j)) app.shared (sym e j).machine.code (sym e j).machine.frames (sym e j).machine.values (sym e j).machine.waits) (Gives (Replied r) (w.own (sym me j)))))
    ∙ ap (λ p. Runs low.machine.me (goes (around app rests.suits.reads w.journal low.machine.me) p)) (own_self app w low rests there))

pub resumed : (old mid low : WorldView) (n : View) (b : Waiting) (r : Reply Ref MadeSymbol) (m : Mode) → old.machine.me < length old.others → b.party < length old.others → mid ≡ turned b.party old
    → low ≡ record mid { machine = with_left b.left mid.machine } → LeadsTo (λ a. Give (Replied r) (party_of a low.machine)) low.machine n m → IsResumed b r old (record low { machine = n }) m
resumed old mid low n b r m l g d e s =
    let whole : low ≡ with_body b.left (turned b.party old) = e ∙ ap (with_body b.left) d in
    record { takes = λ app w h x. goes_there app w old low n b r m h x l g whole s; budget = ap (λ (v : WorldView). v.budget) whole }

-- WHAT THE CODE COMES TO

pub taken_so : (old low new : WorldView) (q : ℕ) (r : Ref) (x : Ask Ref MadeSymbol) (m : Mode) → q ≡ owner_of r → old.machine.me < length old.others → q < length old.others → low ≡ turned q old → IsServed r x low.machine new.machine m
    → new ≡ record low { machine = new.machine } → IsTaken (owner_of r) (Asks r x) old new m
taken_so old low new q r x m e l g d s is =
    subst (λ i. IsTaken i (Asks r x) old new m) e (taken old low new q (Asks r x) m l g d s.keeps s.stands is)

pub imported_so : {E : Type 0} (k : Result Mode E) (old low new : WorldView) (q : ℕ) (link path : List ℕ) → old.machine.me < length old.others → q < length old.others → low ≡ turned q old → IfOk k (IsImported link path low.machine new.machine)
    → OnOk k (new ≡ record low { machine = new.machine }) → IfOk k (IsTaken q (Imports link path) old new)
imported_so (Ok m) old low new q link path l g d s is = taken old low new q (Imports link path) m l g d s.keeps s.stands is
imported_so (Err x) old low new q link path l g d s is = tt

pub taken_so_ok : {E : Type 0} (k : Result Mode E) (old low new : WorldView) (q : ℕ) (r : Ref) (x : Ask Ref MadeSymbol) → q ≡ owner_of r → old.machine.me < length old.others → q < length old.others → low ≡ turned q old → IfOk k (IsServed r x low.machine new.machine)
    → OnOk k (new ≡ record low { machine = new.machine }) → IfOk k (IsTaken (owner_of r) (Asks r x) old new)
taken_so_ok (Ok m) old low new q r x e l g d s is = taken_so old low new q r x m e l g d s is
taken_so_ok (Err z) old low new q r x e l g d s is = tt

pub resumed_so : (old mid new : WorldView) (b : Waiting) (r : Reply Ref MadeSymbol) (m : Mode) → old.machine.me < length old.others → b.party < length old.others → mid ≡ turned b.party old → Replies b.left r mid.machine new.machine m
    → new ≡ record mid { machine = new.machine } → IsResumed b r old new m
resumed_so old mid new b r m l g d s is =
    subst (λ v. IsResumed b r old v m) (sym is) (resumed old mid (record mid { machine = with_left b.left mid.machine }) new.machine b r m l g d refl s.leads)

pub replied : {E : Type 0} (k : Result Mode E) (b : Left) (r : Reply Ref MadeSymbol) (old base low new : View) → IfOk k (LeadsTo (λ a. Give (Replied r) (party_of a low)) low new) → low ≡ with_left b base → base ≡ old → IfOk k (Replies b r old new)
replied (Ok m) b r old base low new h e d =
    let whole : low ≡ with_left b old = e ∙ ap (with_left b) d in
    record { leads = subst (λ w. LeadsTo (λ a. Give (Replied r) (party_of a w)) w new m) whole h }
replied (Err x) b r old base low new h e d = tt

pub resumed_so_ok : {E : Type 0} (k : Result Mode E) (old mid new : WorldView) (b : Waiting) (r : Reply Ref MadeSymbol) → old.machine.me < length old.others → b.party < length old.others → mid ≡ turned b.party old → IfOk k (Replies b.left r mid.machine new.machine)
    → OnOk k (new ≡ record mid { machine = new.machine }) → IfOk k (IsResumed b r old new)
resumed_so_ok (Ok m) old mid new b r l g d s is = resumed_so old mid new b r m l g d s is
resumed_so_ok (Err x) old mid new b r l g d s is = tt
