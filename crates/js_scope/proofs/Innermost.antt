-- The innermost scope that declares a name.
use Rattle.std.proofs.Common.{◌≡◌, ℕ, zero, suc, ◌+◌, ◌<◌, List, [], ◌∷◌, get_or, None, Some, Option, refl, ap, subst, sym, ◌∙◌, arith}
use Rattle.std.specs.Option.{option_map}
use Rattle.js_names.specs.Scopes.{found_in}
use Rattle.js_names.specs.declared.declared.DeclaredName.{DeclaredName}
use Rattle.js_names.specs.declared.declared.FoundName.{FoundName}
use Rattle.js_scope.specs.Laws.{Free_names_are_nowhere, Names_go_innermost, place_in}
use Rattle.js_scope.specs.Resolutions.{binding_at, inner_or, resolve_from}
use Rattle.js_scope.specs.declared.finding.Binding.{Binding}

-- FREE NAMES

free_by : (level : ℕ) (o : Option Binding) (g : Option FoundName) → inner_or o (binding_at level g) ≡ None → (o ≡ None) × (g ≡ None)
free_by level None None h = (refl, refl)
free_by level None (Some f) h = cc
free_by level (Some b) g h = cc

free : (level : ℕ) (n : List ℕ) (scopes : List (List DeclaredName)) → resolve_from level n scopes ≡ None → (k : ℕ) → found_in n (get_or scopes k []) ≡ None
free level n [] h zero = refl
free level n [] h (suc k) = refl
free level n (ds ∷ scopes) h zero = (free_by level (resolve_from (suc level) n scopes) (found_in n ds) h).1
free level n (ds ∷ scopes) h (suc k) = free (suc level) n scopes (free_by level (resolve_from (suc level) n scopes) (found_in n ds) h).0 k

pub free_names_are_nowhere : Free_names_are_nowhere
free_names_are_nowhere n scopes h k = free 0 n scopes h k

-- DECLARED NAMES

record StandsAt (level : ℕ) (n : List ℕ) (scopes : List (List DeclaredName)) (b : Binding) : Type 0 where
  at : ℕ
  scope : b.scope ≡ level + at
  declares : place_in n (get_or scopes at []) ≡ Some b.at
  innermost : (k : ℕ) → at < k → found_in n (get_or scopes k []) ≡ None

inside : (n : List ℕ) (ds : List DeclaredName) (scopes : List (List DeclaredName)) (at : ℕ) → ((k : ℕ) → at < k → found_in n (get_or scopes k []) ≡ None)
    → (k : ℕ) → suc at < k → found_in n (get_or (ds ∷ scopes) k []) ≡ None
inside n ds scopes at q zero l = absurd (omega (arith, l))
inside n ds scopes at q (suc k) l = q k (omega (arith, l))

behind : (n : List ℕ) (ds : List DeclaredName) (scopes : List (List DeclaredName)) → ((k : ℕ) → found_in n (get_or scopes k []) ≡ None)
    → (k : ℕ) → 0 < k → found_in n (get_or (ds ∷ scopes) k []) ≡ None
behind n ds scopes q zero l = absurd (omega (arith, l))
behind n ds scopes q (suc k) l = q k

stands_by : (level : ℕ) (n : List ℕ) (ds : List DeclaredName) (scopes : List (List DeclaredName)) (b : Binding) (o : Option Binding) (g : Option FoundName)
    → resolve_from (suc level) n scopes ≡ o → found_in n ds ≡ g → inner_or o (binding_at level g) ≡ Some b
    → (resolve_from (suc level) n scopes ≡ Some b → StandsAt (suc level) n scopes b) → StandsAt level n (ds ∷ scopes) b
stands_by level n ds scopes b (Some c) g e f h below =
    let r = below (e ∙ h) in
    let far : b.scope ≡ suc level + r.at = r.scope in record {
      at = suc r.at;
      scope = omega (arith, far);
      declares = r.declares;
      innermost = inside n ds scopes r.at r.innermost;
    }
stands_by level n ds scopes b None None e f h below = cc
stands_by level n ds scopes b None (Some found) e f h below =
    let same : record { scope = level; at = found.at } ≡ b = cc in
    subst (λ c. StandsAt level n (ds ∷ scopes) c) same (record {
      at = 0;
      scope = omega arith;
      declares = ap (λ o. option_map (λ d. d.at) o) f;
      innermost = behind n ds scopes (free (suc level) n scopes e);
    })

stands : (level : ℕ) (n : List ℕ) (scopes : List (List DeclaredName)) (b : Binding) → resolve_from level n scopes ≡ Some b → StandsAt level n scopes b
stands level n [] b h = cc
stands level n (ds ∷ scopes) b h =
    stands_by level n ds scopes b (resolve_from (suc level) n scopes) (found_in n ds) refl refl h (λ e. stands (suc level) n scopes b e)

pub names_go_innermost : Names_go_innermost
names_go_innermost n scopes b h =
    let r = stands 0 n scopes b h in
    let e : r.at ≡ b.scope = let s = r.scope in omega (arith, s) in record {
      declares = subst (λ k. place_in n (get_or scopes k []) ≡ Some b.at) e r.declares;
      innermost = λ k l. r.innermost k (subst (λ i. i < k) (sym e) l);
    }
