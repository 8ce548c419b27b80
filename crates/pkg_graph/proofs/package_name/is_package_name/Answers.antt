use Rattle.std.proofs.Common.{◌≡◌, ◌==◌, rules, arith, tests, position}
use Rattle.std.proofs.lemmas.Iterator.{YieldsList-from_slice}
use Rattle.std.proofs.lemmas.Iterator.Search.{position_from_yields_List}
use Rattle.std.proofs.lemmas.Bool.Decides.{nat_tests}
use Rattle.pkg_graph.specs.PackageNames.{is_scoped_name}
use Rattle.pkg_graph.proofs.package_name.is_package_name.Goals as goal

pub returns : goal.returns
returns c =
    let e : c.position.result ≡ position (λ b. b == 47) c.args.text.now =
    position_from_yields_List (λ b. b == 47) _ _ c.position.result c.position.ensures.ran (YieldsList-from_slice c.args.text.now cc) (λ x b q k. search (rules, tests)) in
    let s : c.is_scoped_name.result ≡ is_scoped_name (position (λ b. b == 47) c.args.text.now) c.args.text.now = cc in
    grind (arith, nat_tests)
