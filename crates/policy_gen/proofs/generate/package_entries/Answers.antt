-- They stand in order, and none is written to.
use Rattle.std.proofs.Common.{◌≡◌, ap, ◌∙◌}
use Rattle.std.proofs.lemmas.List.{take_all}
use Rattle.policy_row.specs.Rows.{are_kept}
use Rattle.policy_row.specs.declared.grade.Kind.TheVariants.{Packages}
use Rattle.policy_gen.specs.Generated.{package_entries}
use Rattle.policy_gen.proofs.Policies.{packages_kept}
use Rattle.policy_gen.proofs.generate.package_entries.Goals as goal

pub returns-clause-kept : goal.returns-clause-kept
returns-clause-kept c =
    let packages = c.args.packages.now in
    let imports = c.args.imports.now in
    let same : c.in_ok-entries.entries ≡ package_entries packages imports =
    c.in_ok-entries.ensures.same ∙ c.loop-e.invariant ∙ ap (package_entries packages) (take_all c.loop-e.e-index imports c.loop-e-test.false) in
    ap (are_kept Packages) same ∙ packages_kept packages imports
