use Rattle.std.proofs.Common.{◌≡◌, ℕ, List, ◌∷◌, true, Some, IfOk, ap, ◌∙◌, sym, subst}
use Rattle.std.specs.Option.{option_map}
use Rattle.ses_lockdown.specs.Permits.{count}
use Rattle.ses_lockdown.specs.declared.intrinsics.Intrinsics.{Intrinsics}
use Rattle.ses_prelude.specs.Functions.{all_met, functions_in}
use Rattle.ses_prelude.specs.Helpers.{added_to, shape_of}
use Rattle.ses_prelude.proofs.Functions_laws.{made_whole}
use Rattle.ses_prelude.proofs.templates.intrinsics_of.Goals as goal

pub returns : goal.returns
returns c =
    let o = functions_in c.args.statements.now in
    let shape : Some (c.in-Some.places, c.in-Some.frame) ≡ option_map shape_of o = sym c.in-Some.is ∙ c.in_ok-places.ensures in
    let whole : all_met c.in-Some.places count ≡ true = ap (λ (l : List ℕ). all_met l count) (sym c.as_slice.ensures) ∙ sym c.is_whole.ensures ∙ c.if-not-is_whole.false in
    let opened = c.scopes.view_is ∙ c.in_ok-open.ensures.ok ∙ ap (λ l. c.in-Some.frame ∷ l) c.new-scopes.ensures in
    let made = c.with_functions.ensures c.in-Some.frame opened in
    made_whole o c.in-Some.places c.in-Some.frame c.with_functions.result shape whole
    (subst (λ (i : Intrinsics). IfOk c.with_functions.result (λ m. m ≡ option_map (added_to c.in-Some.frame i) o)) c.in_ok-bodiless.ensures made)
