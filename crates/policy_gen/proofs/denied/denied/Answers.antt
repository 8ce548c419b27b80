-- Each package has its imports by its place.
use Rattle.std.proofs.Common.{◌≡◌, List, IfOk, length, ap, sym, ◌∙◌, subst}
use Rattle.policy_gen.specs.Passes.{denied_by_place}
use Rattle.policy_gen.specs.declared.denial.Denied.{Denied}
use Rattle.policy_gen.proofs.PassLemmas.{length_imports, denials_are_listed}
use Rattle.policy_gen.proofs.denied.denied.Goals as goal

pub denied_of-requires : goal.denied_of-requires
denied_of-requires c =
    ap length (c.as_slice.ensures.value ∙ c.in_ok-imports.ensures) ∙ length_imports c.args.app.now ∙ ap length (sym c.packages.ensures)

pub returns : goal.returns
returns c =
    let app = c.args.app.now in
    let rows = c.args.policy.now in
    let P : List Denied → Type 0 = λ ds. IfOk c.denied_of.result (λ denials. denials ≡ ds) in
    subst P
    (ap (λ packages. denied_by_place packages rows c.as_slice.result.now) c.packages.ensures
    ∙ ap (denied_by_place app.packages rows) (c.as_slice.ensures.value ∙ c.in_ok-imports.ensures) ∙ denials_are_listed app rows)
    c.denied_of.ensures
