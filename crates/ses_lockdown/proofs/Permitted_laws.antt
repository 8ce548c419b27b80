-- A locked object has no property off the permits.
use Rattle.std.proofs.Common.{◌≡◌, ℕ, Bool, true, false, cond, List, [], ◌∷◌, Option, Some, None, refl, inl, inr}
use Rattle.std.specs.List.{AllByRecursion}
use Rattle.lava_base.specs.Ids.{same_made_symbol}
use Rattle.lava_base.specs.declared.ids.MadeSymbol.{MadeSymbol}
use Rattle.js_text.specs.Values.{same_key}
use Rattle.js_text.specs.declared.value.Key.{Key}
use Rattle.js_store.specs.Objects.{goes_before, written, object_at}
use Rattle.ses_lockdown.specs.Laws.{IsPermitted, HasPermittedAlone}
use Rattle.ses_lockdown.specs.Lockdown.{Obj, Property, Properties, defined, with_permit, with_permits, locked_at, locked_object}
use Rattle.ses_lockdown.specs.Permits.{Permit, permits, key_of, is_for}

module _ (place : ℕ) (callable : Bool) where
  -- each permit for the object has a key of which Q holds
  abbrev EachRow : (Key MadeSymbol → Type 0) → List Permit → Type 0
  EachRow Q [] = Unit {0}
  EachRow Q (r ∷ rs) = (is_for r.holder place callable ≡ true → Q (key_of r.sort r.word)) × EachRow Q rs

  weaker : (P Q : Key MadeSymbol → Type 0) → ((k : Key MadeSymbol) → P k → Q k) → (rs : List Permit) → EachRow P rs → EachRow Q rs
  weaker P Q f [] h = tt
  weaker P Q f (r ∷ rs) h = (λ e. f (key_of r.sort r.word) (h.0 e), weaker P Q f rs h.1)

  each_row : (rs : List Permit) → EachRow (IsPermitted rs place callable) rs
  each_row [] = tt
  each_row (r ∷ rs) = (λ e. inl (e, refl), weaker (IsPermitted rs place callable) (IsPermitted (r ∷ rs) place callable) (λ k h. inr h) rs (each_row rs))

module _ (Q : Key MadeSymbol → Type 0) where
  abbrev Has : Properties → Type 0
  Has ps = AllByRecursion (λ p. Q p.0) ps

  written_has : (k : Key MadeSymbol) (d : Property) (ps : Properties) → Q k → Has ps → Has (written same_made_symbol k d ps)
  written_has k d [] q h = (q, tt)
  written_has k d (p ∷ ps) q h = by_tests (same_key same_made_symbol k p.0) (goes_before k p.0) (written_has k d ps q h.1)
    where
      by_tests : (is first : Bool) → Has (written same_made_symbol k d ps) → Has (cond is ((p.0, d) ∷ ps) (cond first ((k, d) ∷ p ∷ ps) (p ∷ written same_made_symbol k d ps)))
      by_tests true first rest = (h.0, h.1)
      by_tests false true rest = (q, h)
      by_tests false false rest = (h.0, rest)

  permit_has : (at : Permit → Option Property) (place : ℕ) (callable : Bool) (r : Permit) (ps : Properties) → (is_for r.holder place callable ≡ true → Q (key_of r.sort r.word)) → Has ps → Has (with_permit at place callable r ps)
  permit_has at place callable r ps q h = by_test (is_for r.holder place callable) q
    where
      by_cases : (d : Option Property) → Q (key_of r.sort r.word) → Has (defined r d ps)
      by_cases None k = h
      by_cases (Some d) k = written_has (key_of r.sort r.word) d ps k h

      by_test : (b : Bool) → (b ≡ true → Q (key_of r.sort r.word)) → Has (cond b (defined r (at r) ps) ps)
      by_test true k = by_cases (at r) (k refl)
      by_test false k = h

  permits_has : (at : Permit → Option Property) (place : ℕ) (callable : Bool) (rs : List Permit) (ps : Properties) → EachRow place callable Q rs → Has ps → Has (with_permits at place callable rs ps)
  permits_has at place callable [] ps e h = h
  permits_has at place callable (r ∷ rs) ps e h = permits_has at place callable rs (with_permit at place callable r ps) e.1 (permit_has at place callable r ps e.0 h)

pub permitted_alone : (objects : List Obj) (place : ℕ) → HasPermittedAlone place (locked_object objects place)
permitted_alone objects place =
    let o = object_at objects place in
    permits_has (IsPermitted permits place o.marks.callable) (λ r. locked_at r o) place o.marks.callable permits [] (each_row place o.marks.callable permits) tt
