-- The next ones, and what is left behind them.
use Rattle.std.proofs.Common.{◌+◌, ◌++◌, drop, subst}
use Rattle.std.proofs.lemmas.List.{drop_more}
use Rattle.lava_journal.specs.Alike.{FindsAlike}
use Rattle.lava_view.proofs.Alike_laws.{one_then_others}
use Rattle.lava_view.proofs.view_page.add_marks.Goals as goal

pub loop-entry-preserved : goal.loop-entry-preserved
loop-entry-preserved c =
    let xs = c.args.marks.now in
    let n = c.loop-entry.entry-index in
    let old = c.loop-entry.table.entries in
    let all = c.args.table.now.entries ++ xs in
    one_then_others c.add_one.new.table.entries old (drop (n + 1) xs) all _ c.in_ok-add_one.ensures
    (subst (λ l. FindsAlike (old ++ l) all) (drop_more xs n _ c.loop-entry-test.true) c.loop-entry.invariant)
