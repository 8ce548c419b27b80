use Rattle.std.proofs.Common.{◌≡◌, ℕ, ◌+◌, Option, subst, IfOk}
use Rattle.std.proofs.lemmas.List.{take_rest}
use Rattle.ses_prelude.specs.Paths.{path_parted}
use Rattle.ses_prelude.proofs.paths.path_parted.Goals as goal

pub returns-in-Some : goal.returns-in-Some
returns-in-Some c =
    let name = c.args.name.now in
    let at = c.in-Some.at in
    subst (λ (o : Option ℕ). IfOk c.property_path.result (λ path. path ≡ path_parted name o)) c.in-Some.ensures.place
    (rw (take_rest name (at + 1)) at c.property_path.ensures)
