-- Where all units stand, the part does; and where it moves on, it stands at no place that is passed.
use Rattle.std.proofs.Common.{◌≡◌, ◌+◌, ◌<◌, ◌≤◌, length, ap, subst, ◌∙◌, arith}
use Rattle.js_text.proofs.Search_laws.{stands_in, ends_in, stands_by_units, stands_on, none_passed}
use Rattle.js_text.specs.Fronts.{StandsUpTo}
use Rattle.js_text.proofs.search.first_place.Goals as goal

pub returns-then-matched-wanted : goal.returns-then-matched-wanted
returns-then-matched-wanted c =
    let text = c.args.text.now in
    let part = c.args.part.now in
    let inv = c.loop-at.invariant in
    let at = c.loop-at.at in
    let stands = stands_in c.loop-at.units c.loop-at.front text part at c.standing-matched.result inv.units inv.front c.standing-matched.ensures.stands in
    let all : c.standing-matched.result ≡ length part = omega (arith, c.if-matched-wanted.true, c.len-wanted.ensures.len) in
    let fits : at + length part ≤ length text = omega (arith, c.loop-at-test.true, c.len-wanted.ensures.len, c.len.ensures.len, c.requires.room) in
    record { first = (inv.low, stands_by_units text part at fits (subst (StandsUpTo text part at) all stands), inv.before) }

pub loop-at-preserved : goal.loop-at-preserved
loop-at-preserved c =
    let text = c.args.text.now in
    let part = c.args.part.now in
    let inv = c.loop-at.invariant in
    let at = c.loop-at.at in
    let matched = c.standing-matched.result in
    let next = c.advance-next.result in
    let stands = stands_in c.loop-at.units c.loop-at.front text part at matched inv.units inv.front c.standing-matched.ensures.stands in
    let within : matched < length part = omega (arith, c.standing-matched.ensures.within.1, ap length inv.front, c.if-matched-wanted.false, c.len-wanted.ensures.len) in
    let room : at + matched < length text = omega (arith, c.loop-at-test.true, c.len-wanted.ensures.len, c.len.ensures.len, c.requires.room) in
    let goes = c.advance-next.ensures part c.fronts_of-fronts.ensures (omega arith) in
    let differs = ends_in c.loop-at.units c.loop-at.front text part at matched inv.units inv.front c.standing-matched.ensures.ends room within in
    record {
      units = c.standing-matched.ensures.texts.0 ∙ inv.units;
      front = c.standing-matched.ensures.texts.1 ∙ inv.front;
      low = omega (arith, inv.low);
      within = omega (arith, goes.within);
      stands = stands_on text part at matched next stands goes;
      before = none_passed text part at matched next stands goes c.args.from within inv.before differs;
    }
