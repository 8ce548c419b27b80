-- A name in scopes of which the innermost is looked at first.
use Rattle.std.proofs.Common.{◌≡◌, ℕ, zero, suc, ◌+◌, ◌<◌, ◌≤◌, List, [], ◌∷◌, ◌++◌, length, take, get_or, None, Some, Option, refl, ap, sym, subst, ◌∙◌, arith}
use Rattle.js_scope.specs.Resolutions.{binding_at, inner_or, resolve_from, resolve_name}
use Rattle.js_scope.specs.declared.finding.Binding.{Binding}
use Rattle.js_names.specs.Scopes.{found_in}
use Rattle.js_names.specs.declared.declared.DeclaredName.{DeclaredName}
use Rattle.js_names.specs.declared.declared.FoundName.{FoundName}

or_again : (a b c : Option Binding) → inner_or (inner_or a b) c ≡ inner_or a (inner_or b c)
or_again None b c = refl
or_again (Some x) b c = refl

or_none : (a : Option Binding) → a ≡ inner_or a None
or_none None = refl
or_none (Some x) = refl

-- the innermost scope first
resolve_push : (level : ℕ) (n : List ℕ) (scopes : List (List DeclaredName)) (ds : List DeclaredName)
    → resolve_from level n (scopes ++ ds ∷ []) ≡ inner_or (binding_at (level + length scopes) (found_in n ds)) (resolve_from level n scopes)
resolve_push level n [] ds =
    let e : level ≡ level + 0 = omega arith in
    or_none (binding_at level (found_in n ds)) ∙ ap (λ k. inner_or (binding_at k (found_in n ds)) None) e
resolve_push level n (es ∷ scopes) ds =
    let e : suc level + length scopes ≡ level + suc (length scopes) = omega arith in
    ap (λ r. inner_or r (binding_at level (found_in n es))) (resolve_push (suc level) n scopes ds)
    ∙ or_again (binding_at (suc level + length scopes) (found_in n ds)) (resolve_from (suc level) n scopes) (binding_at level (found_in n es))
    ∙ ap (λ k. inner_or (binding_at k (found_in n ds)) (resolve_from level n (es ∷ scopes))) e

take_last : {A : Type 0} (xs : List A) (n : ℕ) (x : A) → n < length xs → x ≡ get_or xs n x → take (suc n) xs ≡ take n xs ++ x ∷ []
take_last [] n x h e = absurd (omega (arith, h))
take_last (y ∷ l) zero x h e = ap (λ z. z ∷ []) (sym e)
take_last (y ∷ l) (suc n) x h e = ap (λ r. y ∷ r) (take_last l n x (omega (arith, h)) e)

length_take : {A : Type 0} (xs : List A) (n : ℕ) → n < length xs → length (take n xs) ≡ n
length_take [] n h = absurd (omega (arith, h))
length_take (y ∷ l) zero h = refl
length_take (y ∷ l) (suc n) h = ap suc (length_take l n (omega (arith, h)))

-- the scopes up to one, from it on
resolve_take : (n : List ℕ) (scopes : List (List DeclaredName)) (k : ℕ) (ds : List DeclaredName) → k < length scopes → ds ≡ get_or scopes k ds
    → resolve_name n (take (suc k) scopes) ≡ inner_or (binding_at k (found_in n ds)) (resolve_name n (take k scopes))
resolve_take n scopes k ds h e =
    let count : 0 + length (take k scopes) ≡ k = let l = length_take scopes k h in omega arith in
    ap (λ l. resolve_name n l) (take_last scopes k ds h e) ∙ resolve_push 0 n (take k scopes) ds
    ∙ ap (λ i. inner_or (binding_at i (found_in n ds)) (resolve_name n (take k scopes))) count

-- the innermost of the scopes does not declare the name
pub resolve_missing : (n : List ℕ) (scopes : List (List DeclaredName)) (level k : ℕ) (ds : List DeclaredName) → suc k ≡ level → level ≤ length scopes
    → ds ≡ get_or scopes k ds → found_in n ds ≡ None → resolve_name n (take level scopes) ≡ resolve_name n (take k scopes)
resolve_missing n scopes level k ds s l e f =
    subst (λ i. resolve_name n (take i scopes) ≡ resolve_name n (take k scopes)) s
    (resolve_take n scopes k ds (omega (arith, l, s)) e ∙ ap (λ o. inner_or (binding_at k o) (resolve_name n (take k scopes))) f)

-- it declares it
pub resolve_found : (n : List ℕ) (scopes : List (List DeclaredName)) (level k : ℕ) (ds : List DeclaredName) (found : FoundName) → suc k ≡ level → level ≤ length scopes
    → ds ≡ get_or scopes k ds → found_in n ds ≡ Some found → resolve_name n (take level scopes) ≡ Some (record { scope = k; at = found.at })
resolve_found n scopes level k ds found s l e f =
    subst (λ i. resolve_name n (take i scopes) ≡ Some (record { scope = k; at = found.at })) s
    (resolve_take n scopes k ds (omega (arith, l, s)) e ∙ ap (λ o. inner_or (binding_at k o) (resolve_name n (take k scopes))) f)
