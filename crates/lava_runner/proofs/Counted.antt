-- What a run does to the counts of faults: each stays or rises, and that of an object that failed rises.
use Rattle.std.proofs.Common.{◌≡◌, ◌⊎◌, ◌<◌, ◌≤◌, ℕ, zero, suc, Bool, true, false, List, [], ◌∷◌, Option, Some, None, Ok, Err, sym, ap, ◌∙◌, subst, inl, inr, refl, arith}
use Rattle.lava_host.specs.Hosts.{HostAnswer, HostValues, HostWorld, LooksForFile, Performs, Prints, ReadsFile, ReadsLine, Replies, TakesMoment, path_argument}
use Rattle.lava_host.specs.declared.fault.HostFault.TheVariants.{Outside, OutOfMemory}
use Rattle.lava_host.specs.declared.fault.Which.{Which}
use Rattle.lava_host.specs.declared.fault.Which.TheVariants as which
use Rattle.lava_host.specs.declared.function.HostFunction.{HostFunction}
use Rattle.lava_host.specs.declared.function.HostFunction.TheVariants as function
use Rattle.lava_streams.specs.Counts.{HasRisen, Rises}
use Rattle.lava_streams.specs.Files.{Files}
use Rattle.lava_streams.specs.Outside.{Stand}
use Rattle.lava_runner.specs.Reports.{IsRunOf}
use Rattle.lava_driver.specs.Talks.{AreTalks, IsTalk, Talk, ask_called, failed_by, function_called, newest_failed}
use Rattle.lava_driver.specs.Traces.{PutsText, first_failed}
use Rattle.lava_driver.specs.js_run.Outside.{OutsideCall}
use Rattle.lava_report.specs.lava_loading.declared.loading.LoadedApplication.{LoadedApplication}
use Rattle.lava_report.specs.declared.report.Mode.{Mode}
use Rattle.lava_report.specs.declared.report.Mode.TheVariants as mode
use Rattle.lava_report.specs.declared.report.Report.{Report}
use Rattle.lava_runner.specs.Counts.{AreCounted, Mounts, count_of}

-- ONE COUNT

no_less : (a b c : ℕ) → a ≤ b → b ≤ c → a ≤ c
no_less a b c p q = omega arith

less_behind : (a b c : ℕ) → a ≤ b → b < c → a < c
less_behind a b c p q = omega arith

risen_behind : (a b c : ℕ) → a ≤ b → HasRisen b c → HasRisen a c
risen_behind a b c p (inl q) = inl (less_behind a b c p q)
risen_behind a b c p (inr q) = inr q

pub rises_behind : (a b c : ℕ) → Mounts a b → Rises b c → Rises a c
rises_behind a b c (inl same) r = subst (λ n. Rises n c) same r
rises_behind a b c (inr p) r = (no_less a b c p.0 r.0, risen_behind a b c p.0 r.1)

pub rises_before : (a b c : ℕ) → Rises a b → Mounts b c → Rises a c
rises_before a b c r (inl same) = subst (λ n. Rises a n) (sym same) r
rises_before a b c r (inr q) = rises_behind a b c (inr r) q

pub mounts_on : (a b c : ℕ) → Mounts a b → Mounts b c → Mounts a c
mounts_on a b c m (inl same) = subst (λ n. Mounts a n) (sym same) m
mounts_on a b c m (inr q) = inr (rises_behind a b c m q)

-- ALL COUNTS

none_some : {X : Type 0} {x : X} → None ≡ Some x → ⊥
none_some h = cc

some_one : {X : Type 0} {x y : X} → Some x ≡ Some y → x ≡ y
some_one h = cc

pub unmoved : (w v : HostWorld) → v ≡ w → AreCounted w v None
unmoved w v same = record { each = λ o. inl (ap (λ x. count_of o x) same); rose = λ o is. absurd (none_some is) }

pub counted_on : (w v u : HostWorld) (failed : Option Which) → AreCounted w v None → AreCounted v u failed → AreCounted w u failed
counted_on w v u failed a b = record {
  each = λ o. mounts_on (count_of o w) (count_of o v) (count_of o u) (a.each o) (b.each o);
  rose = λ o is. rises_behind (count_of o w) (count_of o v) (count_of o u) (a.each o) (b.rose o is);
}

-- one object alone was touched
abbrev pub IsTouched : Which → (before after : HostWorld) → Type 0
IsTouched which.Folder w v = v ≡ record w { folder = v.folder }
IsTouched which.Input w v = v ≡ record w { input = v.input }
IsTouched which.Output w v = v ≡ record w { output = v.output }
IsTouched which.Errors w v = v ≡ record w { errors = v.errors }
IsTouched which.Clock w v = v ≡ record w { clock = v.clock }

elsewhere : (o : Which) (w v : HostWorld) → IsTouched o w v → Mounts (count_of o w) (count_of o v) → (p : Which) → Mounts (count_of p w) (count_of p v)
elsewhere which.Folder w v t m which.Folder = m
elsewhere which.Folder w v t m which.Input = inl (ap (λ x. x.input.count) t)
elsewhere which.Folder w v t m which.Output = inl (ap (λ x. x.output.count) t)
elsewhere which.Folder w v t m which.Errors = inl (ap (λ x. x.errors.count) t)
elsewhere which.Folder w v t m which.Clock = inl (ap (λ x. x.clock.count) t)
elsewhere which.Input w v t m which.Folder = inl (ap (λ x. x.folder.count) t)
elsewhere which.Input w v t m which.Input = m
elsewhere which.Input w v t m which.Output = inl (ap (λ x. x.output.count) t)
elsewhere which.Input w v t m which.Errors = inl (ap (λ x. x.errors.count) t)
elsewhere which.Input w v t m which.Clock = inl (ap (λ x. x.clock.count) t)
elsewhere which.Output w v t m which.Folder = inl (ap (λ x. x.folder.count) t)
elsewhere which.Output w v t m which.Input = inl (ap (λ x. x.input.count) t)
elsewhere which.Output w v t m which.Output = m
elsewhere which.Output w v t m which.Errors = inl (ap (λ x. x.errors.count) t)
elsewhere which.Output w v t m which.Clock = inl (ap (λ x. x.clock.count) t)
elsewhere which.Errors w v t m which.Folder = inl (ap (λ x. x.folder.count) t)
elsewhere which.Errors w v t m which.Input = inl (ap (λ x. x.input.count) t)
elsewhere which.Errors w v t m which.Output = inl (ap (λ x. x.output.count) t)
elsewhere which.Errors w v t m which.Errors = m
elsewhere which.Errors w v t m which.Clock = inl (ap (λ x. x.clock.count) t)
elsewhere which.Clock w v t m which.Folder = inl (ap (λ x. x.folder.count) t)
elsewhere which.Clock w v t m which.Input = inl (ap (λ x. x.input.count) t)
elsewhere which.Clock w v t m which.Output = inl (ap (λ x. x.output.count) t)
elsewhere which.Clock w v t m which.Errors = inl (ap (λ x. x.errors.count) t)
elsewhere which.Clock w v t m which.Clock = m

-- what happened to it
pub record IsDone (object : Which) (old new : ℕ) (failed : Option Which) : Type 0 where
  pub mounts : Mounts old new
  pub rose : (p : Which) → failed ≡ Some p → (p ≡ object) × Rises old new

pub touched_so : (o : Which) (w v : HostWorld) (failed : Option Which) → IsTouched o w v → IsDone o (count_of o w) (count_of o v) failed → AreCounted w v failed
touched_so o w v failed t d = record {
  each = elsewhere o w v t d.mounts;
  rose = λ p is. subst (λ q. Rises (count_of q w) (count_of q v)) (sym (d.rose p is).0) (d.rose p is).1;
}

pub went_well : (o : Which) (old new : ℕ) → new ≡ old → IsDone o old new None
went_well o old new same = record { mounts = inl same; rose = λ p is. absurd (none_some is) }

pub failed_so : (o w : Which) (old new : ℕ) → w ≡ o → Rises old new → IsDone o old new (Some w)
failed_so o w old new same r = record { mounts = inr r; rose = λ p is. (sym (some_one is) ∙ same, r) }

-- THE HOST

prints : (emit : Bool) (line : List ℕ) (o : Which) (b a : Stand (List ℕ)) (r : HostAnswer) → Prints emit line o b a r → IsDone o b.count a.count (failed_by r)
prints false line o b a (Ok r) p = went_well o b.count a.count (ap (λ s. s.count) p.1)
prints true line o b a (Ok r) p = went_well o b.count a.count p.1.0
prints false line o b a (Err (Outside w)) p = absurd p
prints true line o b a (Err (Outside w)) p = failed_so o w b.count a.count p.0 p.1.0
prints false line o b a (Err OutOfMemory) p = went_well o b.count a.count (ap (λ s. s.count) p)
prints true line o b a (Err OutOfMemory) p = went_well o b.count a.count (ap (λ s. s.count) p)

reads_line : (b a : Stand (List ℕ)) (r : HostAnswer) → ReadsLine b a r → IsDone which.Input b.count a.count (failed_by r)
reads_line b a (Ok r) p = went_well which.Input b.count a.count p.0
reads_line b a (Err (Outside w)) p = failed_so which.Input w b.count a.count p.0 p.1
reads_line b a (Err OutOfMemory) p = went_well which.Input b.count a.count p

takes_moment : (b a : Stand (List ℕ)) (r : HostAnswer) → TakesMoment b a r → IsDone which.Clock b.count a.count (failed_by r)
takes_moment b a (Ok r) p = went_well which.Clock b.count a.count p.0
takes_moment b a (Err (Outside w)) p = failed_so which.Clock w b.count a.count p.0 p.1
takes_moment b a (Err OutOfMemory) p = absurd p

reads_file : (dir path : List ℕ) (b a : Stand Files) (r : HostAnswer) → ReadsFile dir path b a r → IsDone which.Folder b.count a.count (failed_by r)
reads_file dir path b a (Ok r) p = went_well which.Folder b.count a.count p.0
reads_file dir path b a (Err (Outside w)) p = failed_so which.Folder w b.count a.count p.0 p.1
reads_file dir path b a (Err OutOfMemory) p = went_well which.Folder b.count a.count p.0

looks_for_file : (dir path : List ℕ) (b a : Stand Files) (r : HostAnswer) → LooksForFile dir path b a r → IsDone which.Folder b.count a.count (failed_by r)
looks_for_file dir path b a (Ok r) p = went_well which.Folder b.count a.count p.0
looks_for_file dir path b a (Err (Outside w)) p = failed_so which.Folder w b.count a.count p.0 p.1
looks_for_file dir path b a (Err OutOfMemory) p = went_well which.Folder b.count a.count p.0

performed : (f : HostFunction) (vs : HostValues) (emit : Bool) (dir : List ℕ) (w v : HostWorld) (r : HostAnswer) → Performs f vs emit dir w v r → AreCounted w v (failed_by r)
performed function.Log vs emit dir w v r p = touched_so which.Output w v (failed_by r) p.1 (prints emit _ which.Output w.output v.output r p.0)
performed function.Info vs emit dir w v r p = touched_so which.Output w v (failed_by r) p.1 (prints emit _ which.Output w.output v.output r p.0)
performed function.Warn vs emit dir w v r p = touched_so which.Errors w v (failed_by r) p.1 (prints emit _ which.Errors w.errors v.errors r p.0)
performed function.Error vs emit dir w v r p = touched_so which.Errors w v (failed_by r) p.1 (prints emit _ which.Errors w.errors v.errors r p.0)
performed function.Line vs emit dir w v r p = touched_so which.Input w v (failed_by r) p.1 (reads_line w.input v.input r p.0)
performed function.Now vs emit dir w v r p = touched_so which.Clock w v (failed_by r) p.1 (takes_moment w.clock v.clock r p.0)
performed function.ReadFileSync vs emit dir w v r p = touched_so which.Folder w v (failed_by r) p.1 (reads_file dir (path_argument vs) w.folder v.folder r p.0)
performed function.ExistsSync vs emit dir w v r p = touched_so which.Folder w v (failed_by r) p.1 (looks_for_file dir (path_argument vs) w.folder v.folder r p.0)

-- what calls no function of the host
uncalled : (calls : List OutsideCall) (emit : Bool) (dir : List ℕ) (w v : HostWorld) (r : HostAnswer) → Replies None (ask_called calls) emit dir w v r → AreCounted w v (failed_by r)
uncalled calls emit dir w v (Ok r) p = unmoved w v p.1
uncalled calls emit dir w v (Err (Outside o)) p = absurd p
uncalled calls emit dir w v (Err OutOfMemory) p = unmoved w v p

called : (f : Option HostFunction) (c : OutsideCall) (cs : List OutsideCall) (emit : Bool) (dir : List ℕ) (w v : HostWorld) (r : HostAnswer) → Replies f (ask_called (c ∷ cs)) emit dir w v r → AreCounted w v (failed_by r)
called (Some f) c cs emit dir w v r p = performed f _ emit dir w v r p
called None c cs emit dir w v r p = uncalled (c ∷ cs) emit dir w v r p

replied : (calls : List OutsideCall) (emit : Bool) (dir : List ℕ) (w v : HostWorld) (r : HostAnswer) → Replies (function_called calls) (ask_called calls) emit dir w v r → AreCounted w v (failed_by r)
replied [] emit dir w v r p = uncalled [] emit dir w v r p
replied (c ∷ cs) emit dir w v r p = called (function_called (c ∷ cs)) c cs emit dir w v r p

-- A RUN

talked : (emit : Bool) (dir : List ℕ) (party : ℕ) (t : Talk) (w v : HostWorld) → IsTalk emit dir party t w v → AreCounted w v t.failed
talked emit dir zero t w v h = subst (λ f. AreCounted w v f) h.failed (replied t.calls emit dir w v h.given h.replies)
talked emit dir (suc p) t w v h = subst (λ f. AreCounted w v f) (sym h.none) (unmoved w v h.rest)

pub forgotten : (w v : HostWorld) (failed : Option Which) → AreCounted w v failed → AreCounted w v None
forgotten w v failed a = record { each = a.each; rose = λ o is. absurd (none_some is) }

pub talks_counted : (emit : Bool) (dir : List ℕ) (ts : List Talk) (w v : HostWorld) → AreTalks emit dir ts w v → AreCounted w v (newest_failed ts)
talks_counted emit dir [] w v h = unmoved w v (sym h)
talks_counted emit dir (t ∷ ts) w v h =
    counted_on w h.0 v t.failed (forgotten w h.0 (newest_failed ts) (talks_counted emit dir ts w h.0 h.1.0)) (talked emit dir t.party t h.0 v h.1.1)

-- the output is put last, and what failed before that goes before it
output_put : (w v : HostWorld) (failed : Option Which) → v ≡ record w { output = v.output } → Rises w.output.count v.output.count → AreCounted w v (Some which.Output)
output_put w v failed t r = touched_so which.Output w v (Some which.Output) t (failed_so which.Output which.Output w.output.count v.output.count refl r)

-- counts after a fault
counted_after : (w v u : HostWorld) (failed : Option Which) → AreCounted w v failed → AreCounted v u None → AreCounted w u failed
counted_after w v u failed a b = record {
  each = λ o. mounts_on (count_of o w) (count_of o v) (count_of o u) (a.each o) (b.each o);
  rose = λ o is. rises_before (count_of o w) (count_of o v) (count_of o u) (a.rose o is) (b.each o);
}

put_failed : (w v u : HostWorld) (failed : Option Which) → AreCounted w v failed → AreCounted v u (Some which.Output) → AreCounted w u (first_failed failed)
put_failed w v u None a b = counted_on w v u (Some which.Output) a b
put_failed w v u (Some o) a b = counted_after w v u (Some o) a (forgotten v u (Some which.Output) b)

traced : (text : List ℕ) (w v u : HostWorld) (failed told : Option Which) → AreCounted w v failed → u ≡ record v { output = u.output } → PutsText text failed told v.output u.output → AreCounted w u told
traced text w v u failed told a t (inl p) =
    subst (λ f. AreCounted w u f) (sym p.0)
    (counted_after w v u failed a (touched_so which.Output v u None t (went_well which.Output v.output.count u.output.count p.1.0)))
traced text w v u failed told a t (inr p) =
    subst (λ f. AreCounted w u f) (sym p.0) (put_failed w v u failed a (output_put v u failed t p.1.0))

pub run_counted : (mode : Mode) (directory : List ℕ) (l : LoadedApplication) (budget : ℕ) (w v : HostWorld) (r : Report) → IsRunOf mode directory l.app l.policy budget w v r → AreCounted w v r.which
run_counted mode.Emit directory l budget w v r h = subst (λ f. AreCounted w v f) (sym h.which) (talks_counted true directory h.talks w v h.outside)
run_counted mode.Trace directory l budget w v r h =
    traced h.text w h.mid v (newest_failed h.talks) r.which (talks_counted false directory h.talks w h.mid h.outside) h.rest h.puts
