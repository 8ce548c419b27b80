-- An import goes in at the bytes of its request.
use Rattle.std.proofs.Common.{string_bytes, ap, ◌∙◌}
use Rattle.policy_row.specs.Rows.{with_entry}
use Rattle.policy_row.specs.Texts.{by_bytes}
use Rattle.policy_gen.proofs.Maps.{bytes_inserted}
use Rattle.policy_gen.proofs.imports.Imports.put.Goals as goal

pub returns : goal.returns
returns c =
    ap by_bytes c.in_ok-insert.ensures.entries ∙ bytes_inserted c.self.inside.by_request.entries c.args.request c.args.import
    ∙ ap (λ es. with_entry es (string_bytes c.args.request) c.args.import) c.self.view_is
