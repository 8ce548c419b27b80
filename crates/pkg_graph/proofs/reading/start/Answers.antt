use Rattle.std.proofs.Common.{◌≡◌, Result, Err, Option, ℕ, sym, subst, rules}
use Rattle.pkg_graph.specs.Reading.{Reading}
use Rattle.pkg_graph.specs.Faults.{CountsFolder}
use Rattle.pkg_graph.specs.declared.fault.GraphFault.{GraphFault}
use Rattle.pkg_graph.proofs.FaultLemmas.{counts_passed}
use Rattle.pkg_graph.proofs.reading.start.Goals as goal

pub returns-in_err-take_in-clause-own : goal.returns-in_err-take_in-clause-own
returns-in_err-take_in-clause-own c = λ n.
    let is : c.from_residual-in_err-take_in.result ≡ Err c.in_err-take_in.field-0.0 = search rules in
    subst (λ (r : Result Reading GraphFault). CountsFolder n n r) (sym is) (counts_passed (Option ℕ) Reading n n c.in_err-take_in.field-0.0 (c.in_err-take_in.ensures.own n))
