use Rattle.std.proofs.Common.{◌∷◌, sym, ◌∙◌}
use Rattle.js_valid.specs.Surroundings.{place}
use Rattle.js_valid.specs.Work.{pending, step_of}
use Rattle.js_valid.proofs.Steps_laws.{as_place, as_steps, as_valid_on, ends_false, ends_true}
use Rattle.js_valid.proofs.valid.all_stand.Goals as goal

pub returns-in-None : goal.returns-in-None
returns-in-None c =
    ends_true (place c.loop-left.round.items) (pending c.loop-left.work.items) (place c.args.round.now.items) (pending c.args.work.now.items) c.in-None.ensures
    c.loop-left.invariant

pub returns-then-not-branch : goal.returns-then-not-branch
returns-then-not-branch c =
    let s = step_of c.in-Some.next in
    ends_false (place c.loop-left.round.items) s (pending c.pop.new.work.items) (place c.args.round.now.items) (pending c.args.work.now.items)
    (sym c.in_ok-step-in-Some.ensures.stands ∙ c.if-not-branch.true)
    (as_steps (place c.loop-left.round.items) (pending c.loop-left.work.items) (s ∷ pending c.pop.new.work.items) (place c.args.round.now.items)
    (pending c.args.work.now.items) c.in-Some.ensures c.loop-left.invariant)

pub loop-left-preserved : goal.loop-left-preserved
loop-left-preserved c =
    let s = step_of c.in-Some.next in
    let p = place c.loop-left.round.items in
    let ss = pending c.pop.new.work.items in
    let q = place c.args.round.now.items in
    let ts = pending c.args.work.now.items in
    as_place _ _ _ _ q ts (sym c.in_ok-step-in-Some.ensures.place) (sym c.in_ok-step-in-Some.ensures.work)
    (as_valid_on p s ss q ts (sym c.in_ok-step-in-Some.ensures.stands ∙ c.if-not-branch.false)
    (as_steps p (pending c.loop-left.work.items) (s ∷ ss) q ts c.in-Some.ensures c.loop-left.invariant))
