-- The arguments of a rest parameter.
use Rattle.std.proofs.Common.{◌≡◌, ℕ, ◌-◌, ◌≤◌, [], ◌++◌, length, take, drop, reverse, sym, ap, ◌∙◌, subst, take-append-drop, Result, OnOk, IfOk}
use Rattle.std.proofs.lemmas.List.{drop_all, reverse-reverse}
use Rattle.lava_base.specs.declared.ids.Ref.{Ref}
use Rattle.js_text.specs.Naming.{naming_of}
use Rattle.js_operation.specs.js_run.Functions.{array_of}
use Rattle.js_code.specs.declared.node.TemplateRow.{TemplateRow}
use Rattle.js_machine.specs.Made.{next_own, row_of, with_object}
use Rattle.js_machine.specs.Opened.{with_rest}
use Rattle.js_machine.specs.Views.{Values, View, args_on}

-- THE ARGUMENTS OF A REST PARAMETER

pub none_behind : (n : ℕ) (xs : Values) → length xs ≤ n → [] ≡ drop n xs
none_behind n xs l = sym (drop_all n xs l)

-- arguments that were taken are on the stack again
again : (n : ℕ) (args : Values) (old mid more : View) → args ≡ args_on n old.values → mid ≡ record old { values = drop n old.values } → more ≡ record mid { values = reverse args ++ mid.values } → more ≡ old
again n args old mid more s e d =
    d ∙ (λ j. record (e j) { values = reverse (s j) ++ (e j).values }) ∙ ap (λ xs. record old { values = xs ++ drop n old.values }) (reverse-reverse (take n old.values))
    ∙ ap (λ xs. record old { values = xs }) (take-append-drop n old.values)

pub rest_named : {E : Type 0} (r : Result Ref E) (n : ℕ) (args : Values) (old mid more : View) → args ≡ args_on n old.values → mid ≡ record old { values = drop n old.values } → more ≡ record mid { values = reverse args ++ mid.values }
    → IfOk r (λ x. x ≡ next_own more) → IfOk r (λ x. x ≡ next_own old)
rest_named r n args old mid more s e d h = subst (λ w. IfOk r (λ x. x ≡ next_own w)) (again n args old mid more s e d) h

pub rest_made : {E : Type 0} (r : Result Ref E) (at n fixed : ℕ) (row : TemplateRow) (args rest : Values) (old mid more new : View) → row ≡ row_of old at → fixed ≡ row.params - 1 → args ≡ args_on n old.values → mid ≡ record old { values = drop n old.values }
    → more ≡ record mid { values = reverse args ++ mid.values } → rest ≡ drop fixed args → OnOk r (new ≡ with_object (array_of (naming_of more.me) rest) more) → OnOk r (new ≡ with_rest at n old)
rest_made r at n fixed row args rest old mid more new t f s e d p h =
    let there : rest ≡ drop ((row_of old at).params - 1) (args_on n old.values) = p ∙ (λ j. drop ((f ∙ ap (λ (x : TemplateRow). x.params - 1) t) j) (s j)) in
    subst (λ xs. OnOk r (new ≡ with_object (array_of (naming_of old.me) xs) old)) there (subst (λ (w : View). OnOk r (new ≡ with_object (array_of (naming_of w.me) rest) w)) (again n args old mid more s e d) h)
