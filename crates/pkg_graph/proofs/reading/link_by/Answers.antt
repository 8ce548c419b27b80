use Rattle.std.proofs.Common.{ℕ, sym, subst}
use Rattle.pkg_graph.specs.Faults.{CountsFolder}
use Rattle.pkg_graph.proofs.reading.link_by.Goals as goal

pub returns-in-New-clause-counts : goal.returns-in-New-clause-counts
returns-in-New-clause-counts g c =
    let old = (g.F.Folder.stand c.args.folder.now).count in
    subst (λ (n : ℕ). CountsFolder old n c.take_in.result) (sym c.in_ok-nearest.ensures.counts) (c.take_in.ensures.own old)
