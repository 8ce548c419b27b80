-- What stays while the machine goes on.
use Rattle.std.proofs.Common.{◌≡◌, ◌<◌, ◌+◌, ◌-◌, ℕ, Bool, true, false, nat_eq, List, map, length, get_or, set, refl, sym, ap, ◌∙◌, subst, if◌then◌else◌}
use Rattle.std.proofs.lemmas.List.{get_or-set_other, get_or-set_same, length-set}
use Rattle.std.specs.Option.{unwrap_or}
use Rattle.std.specs.Map.{lookup}
use Rattle.lava_base.specs.Ids.{same_ref}
use Rattle.lava_base.specs.declared.ids.MadeSymbol.{MadeSymbol}
use Rattle.lava_base.specs.declared.ids.Ref.{Ref}
use Rattle.lava_base.specs.declared.marks.Marks.{Marks}
use Rattle.js_text.specs.Naming.{naming_of}
use Rattle.js_store.specs.Foreign.{marks_of}
use Rattle.js_store.specs.Objects.{plain_marks}
use Rattle.js_crossing.specs.js_run.Acts.{Next}
use Rattle.js_crossing.specs.js_run.Heap as heap
use Rattle.js_crossing.specs.js_run.Heap.{Control, Runs, cross, has_run}
use Rattle.js_crossing.specs.js_run.Journal.{Application, Crossing, env_of, foreign_of, put, table_of}
use Rattle.js_crossing.specs.js_run.Parties.{Party}
use Rattle.js_crossing.specs.js_run.Requests.{is_link}
use Rattle.js_crossing.specs.js_run.Runs.{run}
use Rattle.js_crossing.specs.js_machine.Begun.{Own, own_of}
use Rattle.js_crossing.specs.js_machine.Steps.{Keeps, point_of}
use Rattle.js_crossing.specs.js_machine.Stops.{stop_of}
use Rattle.js_crossing.specs.js_machine.Views.{Around, Values, View, Waits, fitting, templates_at}
use Rattle.js_crossing.specs.js_machine.declared.asked.Answer.{Answer}
use Rattle.js_crossing.specs.js_machine.declared.asked.Asked.{Asked}
use Rattle.js_crossing.specs.js_machine.declared.frame.Frame.{Frame}
use Rattle.js_crossing.specs.js_machine.declared.frame.Mode.{Mode}
use Rattle.js_crossing.specs.js_machine.declared.stop.Stop.{Stop}
use Rattle.js_world.specs.Crossings.{Rests, RunsHere}
use Rattle.js_world.specs.Worlds.{Counts, HasOwn, HasStopped, Reads, Stands, Suits, WorldView, around, charged, no_own, own_here, party_with, steps_of, waits_of}
use Rattle.js_world.specs.declared.waiting.Waiting.{Waiting}
use Rattle.js_crossing.proofs.Shown_laws.{choose, found}

-- WHOSE THINGS

pub elsewhere : {A : Type 0} (p q : ℕ) (a x : A) → (p ≡ q → ⊥) → (if nat_eq p q then a else x) ≡ x
elsewhere p q a x n = choose p q (λ b. (if b then a else x) ≡ x) (λ e. absurd (n e)) (λ z. refl)

pub at_home : {A : Type 0} (p q : ℕ) (a x : A) → p ≡ q → (if nat_eq p q then a else x) ≡ a
at_home p q a x e = choose p q (λ b. (if b then a else x) ≡ a) (λ z. refl) (λ n. absurd (n e))

pub me_here : (b : Bool) (a c x : Own) → a.me ≡ c.me → (if b then a else x).me ≡ (if b then c else x).me
me_here true a c x e = e
me_here false a c x e = refl

pub allowed_here : (b : Bool) (a c x : Own) → a.allowed ≡ c.allowed → (if b then a else x).allowed ≡ (if b then c else x).allowed
allowed_here true a c x e = e
allowed_here false a c x e = refl

-- THE MACHINE GOES ON

abbrev pub kept_suits : (app : Application) (v : WorldView) (n : View) → Keeps v.machine n → Suits app v → Suits app (record v { machine = n })
kept_suits app v n k s = record {
  reads = s.reads;
  objects = k.1.1.0 ∙ s.objects;
  templates = (λ j. templates_at (k.1.0 j) (k.1.1.1.0 j)) ∙ s.templates;
  me = λ q l. (λ j. (if nat_eq (k.0 j) q then own_of n else get_or v.others q no_own).me) ∙ me_here (nat_eq v.machine.me q) (own_of n) (own_of v.machine) (get_or v.others q no_own) k.0 ∙ s.me q l;
  links = λ q l x. ap (is_link x)
      ((λ j. (if nat_eq (k.0 j) q then own_of n else get_or v.others q no_own).allowed)
      ∙ allowed_here (nat_eq v.machine.me q) (own_of n) (own_of v.machine) (get_or v.others q no_own) (λ j. (k.1.1.1.1 j).1)) ∙ s.links q l x;
  meters = s.meters;
  leads = s.leads;
}

pub kept_own : (app : Application) (w : heap.World) (v : WorldView) (n : View) (q : ℕ) → Keeps v.machine n → (v.machine.me ≡ q → ⊥) → HasOwn app w v q → HasOwn app w (record v { machine = n }) q
kept_own app w v n q k ne h l =
    let same : own_here v q ≡ own_here (record v { machine = n }) q =
    elsewhere v.machine.me q (own_of v.machine) (get_or v.others q no_own) ne ∙ sym (elsewhere n.me q (own_of n) (get_or v.others q no_own) (λ e. ne (sym k.0 ∙ e))) in
    h l ∙ (λ j. party_with (app.own q) (sym k.1.0 j) (same j))

pub kept_counts : (app : Application) (w : heap.World) (v : WorldView) (n : View) → Keeps v.machine n → Counts app w v → Counts app w (record v { machine = n })
kept_counts app w v n k c = record {
  steps = c.steps;
  spent = c.spent;
  stack = c.stack ∙ (λ j. map (waits_of app (sym k.1.0 j)) v.stack);
  known = (λ j. (k.1.1.1.1 j).0) ∙ c.known;
}

-- what stands around a party is what fits the machine
fits_around : (app : Application) (r : Reads app) (js : List Crossing) (n : View) (q : ℕ) → n.common ≡ app.shared.objects → templates_at n.code n.common_templates ≡ app.shared.templates → n.known ≡ foreign_of app js
    → ((l : List ℕ) → is_link l n.allowed ≡ app.allows q (app.links q l)) → fitting n (around app r js q) ≡ around app r js q
fits_around app r js n q o t k f =
    let marks : (x : Ref) → marks_of same_ref x n.known ≡ table_of app js x =
    λ x. (λ i. unwrap_or (lookup (same_ref x) (k i)) plain_marks) ∙ ap (λ y. unwrap_or y plain_marks) (found x (foreign_of app js)) in
    λ i. record (around app r js q) { shared = record app.shared { objects = o i; templates = t i }; env = record (env_of app (table_of app js) q) { marks = λ x. marks x i; allows = λ l. f l i } }

pub fits_here : (app : Application) (w : heap.World) (v : WorldView) (s : Suits app v) → v.machine.me < length v.others → v.machine.known ≡ foreign_of app w.journal
    → fitting v.machine (around app s.reads w.journal v.machine.me) ≡ around app s.reads w.journal v.machine.me
fits_here app w v s l k =
    let me = v.machine.me in
    let home : own_here v me ≡ own_of v.machine = at_home me me (own_of v.machine) (get_or v.others me no_own) refl in
    fits_around app s.reads w.journal v.machine me s.objects s.templates k (λ x. ap (λ (o : Own). is_link x o.allowed) (sym home) ∙ s.links me l x)

-- a run stops where the world's run does
pub ran : (app : Application) (w : heap.World) (old new : WorldView) (m : Mode) (s : Stop) → Stands app w old m → RunsHere m old new s → HasStopped app w new s (cross app old.budget w w.control)
ran app w old new m s x r =
    let n = new.machine in
    let p = old.machine.me in
    let k = r.runs.keeps in
    let a = around app x.suits.reads w.journal p in
    let steps = x.counts.steps p r.paid in
    let spent = x.counts.spent in
    let stop : stop_of a n s ≡ run (naming_of p) a.shared a.env (steps_of old p + (old.budget - old.spent)) (steps_of old p) (point_of a old.machine m) =
    subst (λ (b : Around). stop_of b n s ≡ run (naming_of p) b.shared b.env (steps_of old p + (old.budget - old.spent)) (steps_of old p) (point_of b old.machine m)) (fits_here app w old x.suits r.there x.counts.known)
    (r.runs.stops a refl (x.suits.meters p r.there)) in
    let so : HasStopped app w (record old { machine = n }) s (cross app old.budget w w.control) = record {
      suits = kept_suits app old n k x.suits;
      others = λ q ne. (let apart : p ≡ q → ⊥ = λ e. ne (k.0 ∙ e) in kept_own app w old n q k apart (x.others q apart));
      counts = kept_counts app w old n k x.counts;
      newest = x.newest;
      comes = ap (cross app old.budget w) x.control
          ∙ (λ j. has_run app p w (run (naming_of p) a.shared a.env (steps j + (old.budget - spent j)) (steps j) (point_of a old.machine m)))
          ∙ ap (has_run app p w) (sym stop)
          ∙ (λ j. has_run app (sym k.0 j) w (stop_of (around app x.suits.reads w.journal (sym k.0 j)) n s));
    } in
    subst (λ v. HasStopped app w v s (cross app old.budget w w.control)) (sym r.rest) so

-- A PARTY STOPS

left_own : (app : Application) (w : heap.World) (v : WorldView) (own : Party Ref MadeSymbol) → ((q : ℕ) → (v.machine.me ≡ q → ⊥) → HasOwn app w v q) → own ≡ party_with (app.own v.machine.me) v.machine.code (own_of v.machine)
    → (q : ℕ) → q < length v.others → put v.machine.me own w.own q ≡ party_with (app.own q) v.machine.code (own_here v q)
left_own app w v own h e q l =
    choose v.machine.me q (λ b. (if b then own else w.own q) ≡ party_with (app.own q) v.machine.code (if b then own_of v.machine else get_or v.others q no_own))
    (λ z. e ∙ ap (λ i. party_with (app.own i) v.machine.code (own_of v.machine)) z)
    (λ ne. h q ne l ∙ ap (party_with (app.own q) v.machine.code) (elsewhere v.machine.me q (own_of v.machine) (get_or v.others q no_own) ne))

pub left_steps : (app : Application) (w : heap.World) (v : WorldView) (p n : ℕ) → Counts app w v → p < length v.steps → (q : ℕ) → q < length (set v.steps p n) → put p n w.steps q ≡ get_or (set v.steps p n) q 0
left_steps app w v p n c l q g =
    choose p q (λ b. (if b then n else w.steps q) ≡ get_or (set v.steps p n) q 0)
    (λ e. sym (get_or-set_same v.steps p n 0 l) ∙ ap (λ i. get_or (set v.steps p n) i 0) e)
    (λ ne. c.steps q (subst (λ k. q < k) (length-set v.steps p n) g) ∙ sym (get_or-set_other v.steps p q n 0 (λ e. ne (sym e))))

pub left_spent : (app : Application) (w : heap.World) (v : WorldView) (p n : ℕ) → Counts app w v → p < length v.steps → w.spent + (n - w.steps p) ≡ v.spent + (n - steps_of v p)
left_spent app w v p n c l = λ j. c.spent j + (n - c.steps p l j)

-- the machine as it is left
abbrev pub left_with : List Frame → Values → Waits → Asked → Answer → List (Ref × Marks) → View → View
left_with fs vs ws a n k m = record m { frames = fs; values = vs; waits = ws; asked = a; answer = n; known = k }

-- the world where a party's things are written back
abbrev pub written : ℕ → Party Ref MadeSymbol → ℕ → List (ℕ × List (Next Ref MadeSymbol)) → List Crossing → Control → heap.World → heap.World
written p own n ks js c w = record { own = put p own w.own; steps = put p n w.steps; spent = w.spent + (n - w.steps p); stack = ks; journal = js; control = c }

pub rests_left : (app : Application) (w : heap.World) (v : WorldView) (fs : List Frame) (vs : Values) (ws : Waits) (a : Asked) (an : Answer) (k : List (Ref × Marks)) (bs : List Waiting) (n : ℕ)
    (own : Party Ref MadeSymbol) (ks : List (ℕ × List (Next Ref MadeSymbol))) (js : List Crossing) (c : Control)
    → Suits app v → ((q : ℕ) → (v.machine.me ≡ q → ⊥) → HasOwn app w v q) → Counts app w v → v.machine.me < length v.steps → own ≡ party_with (app.own v.machine.me) v.machine.code (own_of v.machine)
    → ks ≡ map (waits_of app v.machine.code) bs → k ≡ foreign_of app js
    → Rests app (written v.machine.me own n ks js c w) (record (charged v.machine.me n (record v { machine = left_with fs vs ws a an k v.machine })) { stack = bs })
rests_left app w v fs vs ws a an k bs n own ks js c s h x l e d f = record {
  suits = record { reads = s.reads; objects = s.objects; templates = s.templates; me = s.me; links = s.links; meters = s.meters; leads = s.leads };
  own = λ q g. left_own app w v own h e q g;
  counts = record {
    steps = λ q g. left_steps app w v v.machine.me n x l q g;
    spent = left_spent app w v v.machine.me n x l;
    stack = d;
    known = f;
  };
}
