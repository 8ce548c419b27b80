use Rattle.std.proofs.Common.{◌<◌, ◌≤◌, ap, ◌∙◌, length, map, arith}
use Rattle.js_slots.proofs.Cleared_laws.{cleared_all, cleared_more, length-cleared}
use Rattle.js_store.proofs.Index_laws.{length_places, set_dead}
use Rattle.js_store.proofs.table_index.make_all_dead.Goals as goal
use Rattle.js_store.specs.Tables.{table_entry}

pub loop-at-preserved : goal.loop-at-preserved
loop-at-preserved c =
    let at = c.loop-at.at in
    let old = map table_entry c.args.entries.now in
    let within : at < length old = let same = length-cleared at old in let there = ap length c.loop-at.invariant in let now = length_places c.loop-at.entries in omega (arith, same, there, now, c.loop-at-test.true) in
    set_dead c.loop-at.entries c.set.new.self at c.dead_place.result _ c.set.ensures c.dead_place.ensures c.loop-at.invariant ∙ cleared_more at old within

pub returns : goal.returns
returns c =
    let at = c.loop-at.at in
    let old = map table_entry c.args.entries.now in
    let past : length old ≤ at = let same = length-cleared at old in let there = ap length c.loop-at.invariant in let now = length_places c.loop-at.entries in omega (arith, same, there, now, c.loop-at-test.false) in
    c.loop-at.invariant ∙ cleared_all at old past
