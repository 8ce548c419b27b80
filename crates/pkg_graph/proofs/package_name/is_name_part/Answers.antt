use Rattle.std.proofs.Common.{◌≡◌, rules, arith, tests}
use Rattle.std.specs.List.{list_all}
use Rattle.std.proofs.lemmas.Iterator.{YieldsList-from_slice}
use Rattle.std.proofs.lemmas.Iterator.Search.{all_from_yields_List}
use Rattle.std.proofs.lemmas.Bool.Decides.{nat_tests}
use Rattle.pkg_graph.specs.PackageNames.{is_name_byte}
use Rattle.pkg_graph.proofs.package_name.is_name_part.Goals as goal

pub returns : goal.returns
returns c =
    let e : c.all.result ≡ list_all is_name_byte c.args.part.now =
    all_from_yields_List is_name_byte _ _ c.all.result c.all.ensures.ran (YieldsList-from_slice c.args.part.now cc) (λ x b q k. search (rules, tests)) in
    grind (arith, nat_tests)
