-- The part moves on by the period of the front, or by more than a quarter.
use Rattle.std.proofs.Common.{sym, subst, ◌∙◌}
use Rattle.js_text.proofs.Fronts_laws.{advance_by_front, advance_by_none, advance_by_far}
use Rattle.js_text.specs.Fronts.{IsAdvance}
use Rattle.js_text.proofs.fronts.PeriodicFronts.advance.Goals as goal

pub returns-in_default : goal.returns-in_default
returns-in_default c units are within = subst (IsAdvance units c.args.matched) (sym c.plain.ensures)
    (advance_by_none units c.args.self.now c.args.matched are within (sym c.in_default.is ∙ c.reaching.ensures))

pub returns-then-front-most : goal.returns-then-front-most
returns-then-front-most c units are within = advance_by_front units c.args.self.now c.args.matched are within c.in-Some.front c.in-Some.ensures c.if-front-most.true

pub returns : goal.returns
returns c units are within = subst (IsAdvance units c.args.matched) (sym c.plain-2.ensures)
    (advance_by_far units c.args.self.now c.args.matched are within c.in-Some.front c.in-Some.ensures c.if-front-most.false)
