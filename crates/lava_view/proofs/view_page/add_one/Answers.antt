-- A reference that has marks keeps them; one that has none goes last.
use Rattle.std.proofs.Common.{ap, sym, ◌∙◌}
use Rattle.std.specs.Map.{lookup}
use Rattle.std.specs.Option.{option_copied}
use Rattle.lava_base.specs.Ids.{same_ref}
use Rattle.lava_view.proofs.Alike_laws.{goes_last, stays_marked}
use Rattle.lava_view.proofs.view_page.add_one.Goals as goal

pub returns-in-Some : goal.returns-in-Some
returns-in-Some c =
    stays_marked c.args.table.now.entries c.args.entry.now.0 c.args.entry.now.1 c.in-Some.field-0.now (sym c.get.ensures.value ∙ ap option_copied c.in-Some.is)

pub returns-in_ok-insert-in-None : goal.returns-in_ok-insert-in-None
returns-in_ok-insert-in-None c = λ r.
    ap (λ es. lookup (same_ref r) es)
    (c.in_ok-insert-in-None.ensures.entries ∙ goes_last c.args.table.now.entries c.args.entry.now.0 c.args.entry.now.1 (sym c.get.ensures.value ∙ ap option_copied c.in-None.is))
