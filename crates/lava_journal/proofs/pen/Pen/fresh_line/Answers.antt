-- The line rests on the marks that are found alone.
use Rattle.std.proofs.Common.{subst, sym, ◌∙◌}
use Rattle.lava_journal.specs.Alike.{AreAlike}
use Rattle.lava_journal.specs.Lines.{crossing_line, line_pieces}
use Rattle.lava_journal.specs.Sheets.{blank}
use Rattle.indexmap.proofs.MapLemmas.{OnOk-map}
use Rattle.lava_journal.proofs.Sheet_laws.{alike_pieces, on_a_sheet}
use Rattle.lava_journal.proofs.pen.Pen.fresh_line.Goals as goal

pub returns : goal.returns
returns c =
    let ps = line_pieces c.args.number c.args.crossing.now in
    let line = crossing_line c.args.self.now.names c.args.number c.args.crossing.now c.args.marks.now in
    OnOk-map c.write_line.result _ (AreAlike c.write_line.new.page line)
    (λ e. subst (λ s. AreAlike s line) (sym (e ∙ on_a_sheet ps c.begin.new.self))
    (alike_pieces ps c.begin.new.self (blank c.args.self.now.names c.args.marks.now) c.in_ok-begin.ensures))
    c.write_line.ensures
