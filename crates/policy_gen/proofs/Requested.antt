-- The imports of a package, by what its modules request.
use Rattle.std.proofs.Common.{◌≡◌, ℕ, List, [], ◌∷◌, Bool, true, false, ◌||◌, Option, Some, None, fold, refl, sym, ap, ◌∙◌}
use Rattle.std.specs.List.{list_any}
use Rattle.std.specs.Ordering.{match_ordering}
use Rattle.std.specs.declared.cmp.Ordering.{Ordering}
use Rattle.std.specs.declared.cmp.Ordering.TheVariants.{Less, Equal, Greater}
use Rattle.pkg_graph.specs.declared.graph.Package.{Package}
use Rattle.pkg_load.specs.Applications.{Application as App}
use Rattle.pkg_load.specs.declared.module.LoadedModule.{LoadedModule}
use Rattle.pkg_source.specs.declared.code.ModuleCode.{ModuleCode}
use Rattle.policy_row.specs.Rows.{order_of_names, with_entry, is_in_order}
use Rattle.policy_gen.specs.Imports.{Imports, import_of, with_import, with_request, imports_of}
use Rattle.policy_gen.specs.Uses.{modules_of}
use Rattle.policy_gen.specs.declared.imports.Import.{Import}
use Rattle.policy_gen.proofs.Anys.{on_some, fold_flat}
use Rattle.policy_gen.proofs.Puts.{any_put, equal_names, order_put}
use Rattle.policy_gen.proofs.Wants.{all_requests}

or_moved : (a b c : Bool) → ((a || b) || c) ≡ (b || (a || c))
or_moved true true c = refl
or_moved true false c = refl
or_moved false b c = refl

or_false : (a : Bool) → a ≡ (a || false)
or_false true = refl
or_false false = refl

module _ (packages : List Package) (owner : ℕ) where
  -- each request stands with what it imports
  abbrev pub Right : Imports → Type 0
  Right [] = Unit {0}
  Right (e ∷ es) = (import_of packages owner e.0 ≡ Some e.1) × Right es

  module _ (n : List ℕ) (x : Import) (here : import_of packages owner n ≡ Some x) where
    right_by : (e : List ℕ × Import) (es put : Imports) (o : Ordering) → order_of_names n e.0 ≡ o → Right (e ∷ es) → Right put → Right (match_ordering o ((n, x) ∷ e ∷ es) ((e.0, x) ∷ es) (e ∷ put))
    right_by e es put Less is h rest = (here, h)
    right_by e es put Equal is h rest = (ap (import_of packages owner) (sym (equal_names n e.0 is)) ∙ here, h.1)
    right_by e es put Greater is h rest = (h.0, rest)

    right_put : (es : Imports) → Right es → Right (with_entry es n x)
    right_put [] h = (here, tt)
    right_put (e ∷ es) h = right_by e es (with_entry es n x) (order_of_names n e.0) refl h (right_put es h.1)

  right_import : (es : Imports) (r : List ℕ) (o : Option Import) → import_of packages owner r ≡ o → Right es → Right (with_import es r o)
  right_import es r None is h = h
  right_import es r (Some x) is h = right_put r x is es h

  right_from : (rs : List (List ℕ)) (es : Imports) → Right es → Right (fold (with_request packages owner) es rs)
  right_from [] es h = h
  right_from (r ∷ rs) es h = right_from rs (with_request packages owner es r) (right_import es r (import_of packages owner r) refl h)

  order_import : (es : Imports) (r : List ℕ) (o : Option Import) → is_in_order es ≡ true → is_in_order (with_import es r o) ≡ true
  order_import es r None h = h
  order_import es r (Some x) h = order_put r x es h

  order_from : (rs : List (List ℕ)) (es : Imports) → is_in_order es ≡ true → is_in_order (fold (with_request packages owner) es rs) ≡ true
  order_from [] es h = h
  order_from (r ∷ rs) es h = order_from rs (with_request packages owner es r) (order_import es r (import_of packages owner r) h)

  module _ (q : List ℕ → Bool) (never : (r : List ℕ) → import_of packages owner r ≡ None → q r ≡ false) where
    one_import : (es : Imports) (r : List ℕ) (o : Option Import) → import_of packages owner r ≡ o → list_any (λ e. q e.0) (with_import es r o) ≡ (q r || list_any (λ e. q e.0) es)
    one_import es r None is = ap (λ b. b || list_any (λ (e : List ℕ × Import). q e.0) es) (sym (never r is))
    one_import es r (Some x) is = any_put q r x es

    names_from : (rs : List (List ℕ)) (es : Imports) → list_any (λ e. q e.0) (fold (with_request packages owner) es rs) ≡ (list_any (λ e. q e.0) es || list_any q rs)
    names_from [] es = or_false (list_any (λ (e : List ℕ × Import). q e.0) es)
    names_from (r ∷ rs) es =
        names_from rs (with_request packages owner es r) ∙ ap (λ b. b || list_any q rs) (one_import es r (import_of packages owner r) refl)
        ∙ or_moved (q r) (list_any (λ (e : List ℕ × Import). q e.0) es) (list_any q rs)

  right_any : (t : List ℕ → Import → Bool) (es : Imports) → Right es → list_any (λ e. t e.0 e.1) es ≡ list_any (λ e. on_some (t e.0) (import_of packages owner e.0)) es
  right_any t [] h = refl
  right_any t (e ∷ es) h = ap (λ o. on_some (t e.0) o || list_any (λ e. t e.0 e.1) es) (sym (h.0)) ∙ ap (λ b. on_some (t e.0) (import_of packages owner e.0) || b) (right_any t es h.1)

module _ (app : App ModuleCode) (owner : ℕ) where
  imports_are : imports_of app owner ≡ fold (with_request app.packages owner) [] (all_requests app owner)
  imports_are = fold_flat (with_request app.packages owner) (λ (m : LoadedModule ModuleCode). m.requests) [] (modules_of app owner)

  -- some import passes a test where that of some request does
  pub imports_any : (t : List ℕ → Import → Bool) → list_any (λ e. t e.0 e.1) (imports_of app owner) ≡ list_any (λ r. on_some (t r) (import_of app.packages owner r)) (all_requests app owner)
  imports_any t =
      ap (list_any (λ e. t e.0 e.1)) imports_are
      ∙ right_any app.packages owner t (fold (with_request app.packages owner) [] (all_requests app owner)) (right_from app.packages owner (all_requests app owner) [] tt)
      ∙ names_from app.packages owner (λ r. on_some (t r) (import_of app.packages owner r)) (λ r is. ap (on_some (t r)) is) (all_requests app owner) []

  -- imports stand in the order of their requests
  pub imports_order : is_in_order (imports_of app owner) ≡ true
  imports_order = ap is_in_order imports_are ∙ order_from app.packages owner (all_requests app owner) [] refl
