-- Each front that is learnt has its period, and no period is passed that is not known.
use Rattle.std.proofs.Common.{◌≡◌, ◌+◌, ◌≤◌, length, refl, ap, sym, subst, ◌∙◌, arith}
use Rattle.js_text.proofs.Fronts_laws.{fronts_passed}
use Rattle.js_text.proofs.Search_laws.{period_stands, stands_in, ends_in, stands_on}
use Rattle.js_text.specs.Fronts.{StandsUpTo, AreFrontsOf}
use Rattle.js_text.proofs.search.fronts_of.Goals as goal

pub returns-then-not-learn : goal.returns-then-not-learn
returns-then-not-learn c =
    let part = c.args.part.now in
    let inv = c.loop-ahead.invariant in
    let period = c.below-period.result in
    let matched = c.standing-matched.result in
    let stands = stands_in c.loop-ahead.ahead c.loop-ahead.front part part period matched inv.ahead inv.front c.standing-matched.ensures.stands in
    c.learn.ensures.fronts part inv.are (period_stands part period matched stands)

pub pass-requires : goal.pass-requires
pass-requires c =
    let part = c.args.part.now in
    let inv = c.loop-ahead.invariant in
    let period = c.below-period.result in
    let matched = c.standing-matched.result in
    let stands = stands_in c.loop-ahead.ahead c.loop-ahead.front part part period matched inv.ahead inv.front c.standing-matched.ensures.stands in
    let are = c.learn.ensures.fronts part inv.are (period_stands part period matched stands) in
    let within : period + matched ≤ length part = omega (arith, c.standing-matched.ensures.within.0, ap length inv.ahead) in
    let goes = c.advance-next.ensures part are (omega arith) in
    omega (arith, goes.few, c.learn.ensures.below, c.below-period.ensures, c.len-most.ensures.len, c.len-most.ensures.within)

pub loop-ahead-smaller : goal.loop-ahead-smaller
loop-ahead-smaller c =
    let part = c.args.part.now in
    let inv = c.loop-ahead.invariant in
    let period = c.below-period.result in
    let matched = c.standing-matched.result in
    let stands = stands_in c.loop-ahead.ahead c.loop-ahead.front part part period matched inv.ahead inv.front c.standing-matched.ensures.stands in
    let are = c.learn.ensures.fronts part inv.are (period_stands part period matched stands) in
    let within : period + matched ≤ length part = omega (arith, c.standing-matched.ensures.within.0, ap length inv.ahead) in
    let goes = c.advance-next.ensures part are (omega arith) in
    let below = ap (λ k. k.below) c.pass.ensures in
    omega (arith, below, goes.some, c.learn.ensures.below, c.below.ensures, c.loop-ahead-test.true, c.len-most.ensures.len, c.requires)

pub loop-ahead-preserved : goal.loop-ahead-preserved
loop-ahead-preserved c =
    let part = c.args.part.now in
    let inv = c.loop-ahead.invariant in
    let period = c.below-period.result in
    let matched = c.standing-matched.result in
    let stands = stands_in c.loop-ahead.ahead c.loop-ahead.front part part period matched inv.ahead inv.front c.standing-matched.ensures.stands in
    let are = c.learn.ensures.fronts part inv.are (period_stands part period matched stands) in
    let within : period + matched ≤ length part = omega (arith, c.standing-matched.ensures.within.0, ap length inv.ahead) in
    let next = c.advance-next.result in
    let goes = c.advance-next.ensures part are (omega arith) in
    let place : period ≡ c.learn.new.self.below = c.below-period.ensures ∙ sym c.learn.ensures.below in
    let below = ap (λ k. k.below) c.pass.ensures in
    let moved : period + next.places ≡ c.pass.new.self.below = omega (arith, below, place) in
    record {
      ahead = c.standing-matched.ensures.texts.0 ∙ inv.ahead;
      front = c.standing-matched.ensures.texts.1 ∙ inv.front;
      are = subst (AreFrontsOf part) (sym c.pass.ensures)
          (fronts_passed part c.learn.new.self period matched are place stands
          (ends_in c.loop-ahead.ahead c.loop-ahead.front part part period matched inv.ahead inv.front c.standing-matched.ensures.ends)
          (c.if-not-learn.ensures.reached refl) next goes);
      stands = subst (λ at. StandsUpTo part part at next.kept) moved (stands_on part part period matched next stands goes);
      within = λ fits. omega (arith, goes.within, moved, within, fits);
    }
