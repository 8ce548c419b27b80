-- Each package has its keys and its imports by its place.
use Rattle.std.proofs.Common.{◌≡◌, IfOk, length, ap, sym, ◌∙◌, subst}
use Rattle.policy_row.specs.Rows.{Rows}
use Rattle.policy_gen.specs.Passes.{keys_by_place, rows_by_place}
use Rattle.policy_gen.proofs.PassLemmas.{length_keys, length_imports, rows_are_generated}
use Rattle.policy_gen.proofs.generate.generate.Goals as goal

pub policy_of-requires-clause-keys : goal.policy_of-requires-clause-keys
policy_of-requires-clause-keys c =
    ap length (c.as_slice.ensures.value ∙ c.in_ok-keys.ensures) ∙ length_keys c.args.app.now ∙ ap length (sym c.packages.ensures)

pub policy_of-requires-clause-imports : goal.policy_of-requires-clause-imports
policy_of-requires-clause-imports c =
    ap length (c.as_slice-2.ensures.value ∙ c.in_ok-imports.ensures) ∙ length_imports c.args.app.now ∙ ap length (sym c.packages.ensures)

pub returns : goal.returns
returns c =
    let app = c.args.app.now in
    let P : Rows → Type 0 = λ rows. IfOk c.policy_of.result (λ policy. policy ≡ rows) in
    subst P
    (ap (λ packages. rows_by_place packages c.as_slice.result.now c.as_slice-2.result.now) c.packages.ensures
    ∙ ap (λ keys. rows_by_place app.packages keys c.as_slice-2.result.now) (c.as_slice.ensures.value ∙ c.in_ok-keys.ensures)
    ∙ ap (rows_by_place app.packages (keys_by_place app)) (c.as_slice-2.ensures.value ∙ c.in_ok-imports.ensures) ∙ rows_are_generated app)
    c.policy_of.ensures
