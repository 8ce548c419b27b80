-- What is seen, and what is left to see.
use Rattle.std.proofs.Common.{◌≡◌, ◌++◌, drop}
use Rattle.lava_view.specs.Views.{seen_by, view_lines}
use Rattle.lava_view.proofs.view.see_all.Given as goal

abbrev pub invariant-loop-line : goal.invariant-loop-line
invariant-loop-line l = record {
  party : l.page.party ≡ l.initial.page.party;
  seen : l.lines ++ view_lines l.initial.page.party l.page.names (seen_by l.initial.page.party l.page.marks (drop l.line-index l.all))
      ≡ l.initial.lines ++ view_lines l.initial.page.party l.initial.page.names (seen_by l.initial.page.party l.initial.page.marks l.all);
}
