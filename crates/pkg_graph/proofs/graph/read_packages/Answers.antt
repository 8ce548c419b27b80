use Rattle.std.proofs.Common.{◌≡◌, Result, Err, List, ℕ, sym, subst, rules}
use Rattle.pkg_graph.specs.Reading.{Reading}
use Rattle.pkg_graph.specs.Faults.{CountsFolder}
use Rattle.pkg_graph.specs.declared.fault.GraphFault.{GraphFault}
use Rattle.pkg_graph.specs.declared.graph.Package.{Package}
use Rattle.pkg_graph.proofs.FaultLemmas.{counts_passed}
use Rattle.pkg_graph.proofs.graph.read_packages.Goals as goal

pub returns-in_err-reading-clause-counts : goal.returns-in_err-reading-clause-counts
returns-in_err-reading-clause-counts g c =
    let old = (g.F.Folder.stand c.args.folder.now).count in
    let new = (g.F.Folder.stand c.find_standing.new.folder).count in
    let is : c.from_residual-in_err-reading.result ≡ Err c.in_err-reading.field-0.0 = search rules in
    let here = counts_passed Reading (List Package) old old c.in_err-reading.field-0.0 (c.in_err-reading.ensures.own old) in
    let there = subst (λ (n : ℕ). CountsFolder {T = List Package} old n (Err c.in_err-reading.field-0.0)) (sym c.in_ok-standing.ensures.counts) here in
    subst (λ (r : Result (List Package) GraphFault). CountsFolder old new r) (sym is) there
