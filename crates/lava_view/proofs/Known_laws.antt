-- Places among what is named, as the keys of a set have them.
use Rattle.std.proofs.Common.{◌≡◌, Bool, true, false, ◌||◌, cond, List, [], ◌∷◌, ◌++◌, refl, ap, sym, true≢false, ◌∙◌}
use Rattle.std.proofs.lemmas.List.{append_assoc, map-append}
use Rattle.std.proofs.lemmas.List.Recursion.{is_position_or_len}
use Rattle.std.specs.List.{list_any, position_or_len}
use Rattle.lava_base.specs.Ids.{same_ref}
use Rattle.lava_base.specs.declared.ids.Ref.{Ref}
use Rattle.indexmap.specs.IndexSet.{insert_key}
use Rattle.lava_view.specs.Naming.{identities, identity_of, same_named}
use Rattle.lava_view.specs.Views.{place_in, same_identity, with_one}
use Rattle.lava_view.specs.declared.named.Named.{Named}

pub place_is : (xs : List Named) (a : Named) → position_or_len (same_named a) xs ≡ place_in (identity_of a) (identities xs)
place_is xs a = sym (is_position_or_len (λ ys. place_in (identity_of a) (identities ys)) (same_named a) refl (λ y ys. refl) xs)

is_known : (xs : List Named) (a : Named) → list_any (same_named a) xs ≡ list_any (same_identity (identity_of a)) (identities xs)
is_known [] a = refl
is_known (x ∷ xs) a = ap (λ b. same_named a x || b) (is_known xs a)

either : (b : Bool) (xs : List Named) (a : Named) → identities (cond b xs (xs ++ a ∷ [])) ≡ cond b (identities xs) (identities xs ++ identity_of a ∷ [])
either true xs a = refl
either false xs a = map-append identity_of xs (a ∷ [])

pub one_more : (xs : List Named) (a : Named) → identities (insert_key same_named xs a) ≡ with_one (identities xs) (identity_of a)
one_more xs a = either (list_any (same_named a) xs) xs a ∙ ap (λ b. cond b (identities xs) (identities xs ++ identity_of a ∷ [])) (is_known xs a)

-- what is in one of two lists
pub in_either : {X : Type 0} (test : X → Bool) (a b : List X) → list_any test (a ++ b) ≡ (list_any test a || list_any test b)
in_either test [] b = refl
in_either test (x ∷ a) b = ap (λ t. test x || t) (in_either test a b) ∙ regrouped (test x) (list_any test a) (list_any test b)
  where
    regrouped : (p q s : Bool) → (p || (q || s)) ≡ ((p || q) || s)
    regrouped true q s = refl
    regrouped false q s = refl

in_neither : (p q : Bool) → (p || q) ≡ false → q ≡ false
in_neither true q h = absurd (true≢false h)
in_neither false q h = h

-- what is in none of two goes last in the second, and so last of all
pub last_of_all : (a b : List Ref) (r : Ref) → list_any (same_ref r) (a ++ b) ≡ false → a ++ insert_key same_ref b r ≡ (a ++ b) ++ r ∷ []
last_of_all a b r h =
    let not : list_any (same_ref r) b ≡ false = in_neither (list_any (same_ref r) a) (list_any (same_ref r) b) (sym (in_either (same_ref r) a b) ∙ h) in
    ap (λ t. a ++ cond t b (b ++ r ∷ [])) not ∙ sym (append_assoc a b (r ∷ []))
