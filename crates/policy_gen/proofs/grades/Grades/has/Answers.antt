-- What stands at a name is found by its bytes.
use Rattle.std.proofs.Common.{is_some, ap, ◌∙◌}
use Rattle.policy_row.specs.Rows.{at_name}
use Rattle.policy_gen.proofs.Maps.{bytes_found, some_copied}
use Rattle.policy_gen.proofs.grades.Grades.has.Goals as goal

pub returns : goal.returns
returns c =
    c.is_some.ensures ∙ some_copied c.get.result ∙ ap is_some (c.get.ensures.value ∙ bytes_found c.args.name.now c.self.inside.by_name.entries)
    ∙ ap (λ es. is_some (at_name c.args.name.now es)) c.self.view_is
