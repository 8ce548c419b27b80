-- Of others a start names what it is given alone: an intrinsic is common, and what else a global has is its own.
use Rattle.std.proofs.Common.{◌≡◌, ℕ, zero, suc, List, [], ◌∷◌, ◌++◌, Bool, true, false, if◌then◌else◌, refl, sym, ap, ◌∙◌, subst, inl, inr, ◌⊎◌, ⊎_elim, None}
use Rattle.std.specs.Prelude.{codes}
use Rattle.lava_base.specs.declared.ids.MadeSymbol.{MadeSymbol}
use Rattle.lava_base.specs.declared.ids.Ref.{Ref}
use Rattle.js_text.specs.CommonPaths.{common_paths}
use Rattle.js_text.specs.Identities.{Identity, Of_object, Of_symbol, value_identities}
use Rattle.js_text.specs.Naming.{naming_of}
use Rattle.js_text.specs.declared.value.Key.{Key}
use Rattle.js_desc.specs.Identities.{all_identities, option_identities}
use Rattle.js_desc.specs.declared.descriptor.Descriptor.{Descriptor}
use Rattle.js_store.specs.Identities.{object_identities, property_identities}
use Rattle.js_store.specs.Objects.{plain_marks}
use Rattle.js_run.specs.Globals.{comes_first, default_properties, intrinsic_property, intrinsics_from, is_global, self_property, with_self}
use Rattle.js_run.specs.Identities.{IsAmong, party_identities}
use Rattle.js_run.specs.Journal.{Application, find_mark}
use Rattle.js_run.specs.Laws.{HasMark, IsWellMade, is_foreign, is_from_other, left_first, owner}
use Rattle.js_run.specs.Outside.{OutsideCall, OutsideAnswer}
use Rattle.js_run.specs.Parties.{Loaded, Party, Shared}
use Rattle.js_run.specs.Starts.{blank, host_party, host_ref, package_global, package_party, root_endowments}
use Rattle.js_run_laws.specs.Given.{Alone_is_well_made, Gift, Given_is_well_made, IsGiven, IsPackage, alone, gift_identities}
use Rattle.js_run_laws.proofs.Looks.{in_front, behind}
use Rattle.js_run_laws.proofs.Story.{in_either}
use Rattle.js_run_laws.proofs.Swap.{own_origin}

-- none of these is another party's
abbrev pub AtHome : ℕ → List (Identity Ref MadeSymbol) → Type 0
AtHome p xs = (a : Identity Ref MadeSymbol) → IsAmong a xs → is_foreign p a ≡ false

-- the same by a test
abbrev all_at_home : ℕ → List (Identity Ref MadeSymbol) → Bool
all_at_home p [] = true
all_at_home p (x ∷ xs) = if is_foreign p x then false else all_at_home p xs

by_test : (p : ℕ) (xs : List (Identity Ref MadeSymbol)) → all_at_home p xs ≡ true → AtHome p xs
by_test p [] e a h = absurd h
by_test p (x ∷ xs) e a h = by (is_foreign p x) refl (λ z. by_test p xs z a) e
  where
    by : (b : Bool) → is_foreign p x ≡ b → (all_at_home p xs ≡ true → IsAmong a xs → is_foreign p a ≡ false) → (if b then false else all_at_home p xs) ≡ true → is_foreign p a ≡ false
    by true k rest z = absurd (cc z)
    by false k rest z = ⊎_elim (λ same. ap (is_foreign p) same ∙ k) (rest z) h

both_home : (p : ℕ) (xs ys : List (Identity Ref MadeSymbol)) → AtHome p xs → AtHome p ys → AtHome p (xs ++ ys)
both_home p xs ys hx hy a h = ⊎_elim (hx a) (hy a) (in_either a xs ys h)

-- what is foreign is none of these
pub never : (p : ℕ) (xs : List (Identity Ref MadeSymbol)) → AtHome p xs → (a : Identity Ref MadeSymbol) → is_foreign p a ≡ true → IsAmong a xs → ⊥
never p xs home a foreign h = let bad : true ≡ false = sym foreign ∙ home a h in cc bad

module _ (p : ℕ) where
  abbrev ids : List (Key MadeSymbol × Descriptor Ref MadeSymbol) → List (Identity Ref MadeSymbol)
  ids ps = all_identities property_identities ps

  ids_append : (ps qs : List (Key MadeSymbol × Descriptor Ref MadeSymbol)) (a : Identity Ref MadeSymbol) → IsAmong a (ids (ps ++ qs)) → IsAmong a (ids ps) ⊎ IsAmong a (ids qs)
  ids_append [] qs a h = inr h
  ids_append (x ∷ ps) qs a h =
      ⊎_elim
      (λ k. inl (in_front a (property_identities x) (ids ps) k))
      (λ k. ⊎_elim (λ z. inl (behind a (property_identities x) (ids ps) z)) (λ z. inr z) (ids_append ps qs a k))
      (in_either a (property_identities x) (ids (ps ++ qs)) h)

  intrinsic_home : (place : ℕ) (path : List ℕ) → AtHome p (property_identities (intrinsic_property (naming_of p) place path))
  intrinsic_home place path a h = ⊎_elim (λ e. ap (is_foreign p) e) (λ z. absurd z) h

  intrinsics_home : (n : ℕ) (paths : List (List ℕ)) → AtHome p (ids (intrinsics_from (naming_of p) n paths))
  intrinsics_home n [] = λ a h. absurd h
  intrinsics_home n (path ∷ paths) = by (is_global path) (intrinsics_home (suc n) paths)
    where
      by : (b : Bool) → AtHome p (ids (intrinsics_from (naming_of p) (suc n) paths)) → AtHome p (ids (if b then intrinsic_property (naming_of p) n path ∷ intrinsics_from (naming_of p) (suc n) paths else intrinsics_from (naming_of p) (suc n) paths))
      by true rest = both_home p (property_identities (intrinsic_property (naming_of p) n path)) (ids (intrinsics_from (naming_of p) (suc n) paths)) (intrinsic_home n path) rest
      by false rest = rest

  self_home : AtHome p (property_identities (self_property (naming_of p)))
  self_home a h = ⊎_elim (λ e. ap (is_foreign p) e ∙ ap is_from_other (own_origin p 0)) (λ z. absurd z) h

  with_self_home : (ps : List (Key MadeSymbol × Descriptor Ref MadeSymbol)) → AtHome p (ids ps) → AtHome p (ids (with_self (naming_of p) ps))
  with_self_home [] h = both_home p (property_identities (self_property (naming_of p))) [] self_home h
  with_self_home (x ∷ ps) h = by (comes_first (naming_of p) x.0) (with_self_home ps (λ a k. h a (behind a (property_identities x) (ids ps) k)))
    where
      by : (b : Bool) → AtHome p (ids (with_self (naming_of p) ps)) → AtHome p (ids (if b then x ∷ with_self (naming_of p) ps else self_property (naming_of p) ∷ x ∷ ps))
      by true later = both_home p (property_identities x) (ids (with_self (naming_of p) ps)) (λ a k. h a (in_front a (property_identities x) (ids ps) k)) later
      by false later = both_home p (property_identities (self_property (naming_of p))) (ids (x ∷ ps)) self_home h

  pub default_home : AtHome p (ids (default_properties (naming_of p)))
  default_home = with_self_home (intrinsics_from (naming_of p) 0 common_paths) (intrinsics_home 0 common_paths)

-- the host names none of others
pub host_home : AtHome 0 (party_identities host_party)
host_home = by_test 0 (party_identities host_party) refl

-- a party that is not made yet names nothing
pub blank_home : (a : Identity Ref MadeSymbol) → IsAmong a (party_identities (blank {R = Ref} {S = MadeSymbol})) → ⊥
blank_home a h = h

-- what a list ends with adds nothing
pub in_all : {A : Type 0} (a : A) (xs : List A) → IsAmong a (xs ++ []) → IsAmong a xs
in_all a xs h = ⊎_elim (λ k. k) (λ k. absurd k) (in_either a xs [] h)

-- what a package names of others is its gift
package_names : (p : ℕ) (g : Gift) (name main : List ℕ) (modules : List Loaded) (links : List (List ℕ)) (a : Identity Ref MadeSymbol) → is_foreign p a ≡ true
    → IsAmong a (party_identities (package_party p name main modules links g.builtin g.properties)) → IsAmong a (gift_identities g)
package_names p g name main modules links a foreign h =
    let builtin = option_identities value_identities g.builtin in
    let objects = all_identities object_identities (package_global (naming_of p) g.properties ∷ []) in
    let defaults = default_properties (naming_of p) in
    ⊎_elim
    (λ k. ⊎_elim
    (λ e. absurd (let bad : true ≡ false = sym foreign ∙ ap (is_foreign p) e in cc bad))
    (λ z. ⊎_elim
    (λ v. absurd (never p (ids p defaults) (default_home p) a foreign v))
    (λ v. in_front a (ids p g.properties) builtin v)
    (ids_append p defaults g.properties a (in_all a (ids p (defaults ++ g.properties)) (in_all a (ids p (defaults ++ g.properties) ++ []) z))))
    k)
    (λ k. behind a (ids p g.properties) builtin (in_all a builtin k))
    (in_either a objects (builtin ++ []) h)

module _ (app : Application) (gifts : ℕ → Gift) (given : IsGiven app gifts) where
  -- what a start names of others was given
  names_gift : (p : ℕ) (a : Identity Ref MadeSymbol) → is_foreign p a ≡ true → IsAmong a (party_identities (app.own p)) → IsAmong a (gift_identities (gifts p))
  names_gift zero a foreign h = absurd (never 0 (party_identities host_party) host_home a foreign (subst (λ (own : Party Ref MadeSymbol). IsAmong a (party_identities own)) given.host h))
  names_gift (suc p) a foreign h =
      let stands = given.packages p in
      ⊎_elim
      (λ e. package_names (suc p) (gifts (suc p)) stands.name stands.main stands.modules stands.links a foreign (subst (λ (own : Party Ref MadeSymbol). IsAmong a (party_identities own)) e h))
      (λ e. absurd (blank_home a (subst (λ (own : Party Ref MadeSymbol). IsAmong a (party_identities own)) e h)))
      stands.starts

  well : IsWellMade app
  well = record {
    marked = λ p r foreign h. given.marked p r foreign (names_gift p (Of_object r) (ap is_from_other foreign) h);
    listed = λ p a foreign h. given.listed p a foreign (names_gift p a foreign h);
    left = λ p a foreign h. given.left p a foreign (names_gift p a foreign h);
  }

pub given_is_well_made : Given_is_well_made
given_is_well_made app gifts given = well app gifts given

-- THE OWN PACKAGE ALONE

abbrev root_gift : ℕ → Gift
root_gift zero = record { properties = []; builtin = None }
root_gift (suc zero) = record { properties = root_endowments; builtin = None }
root_gift (suc (suc p)) = record { properties = []; builtin = None }

-- what holds of each of the three objects holds of what is among them
three : (P : Identity Ref MadeSymbol → Type 0) → P (Of_object (host_ref 7)) → P (Of_object (host_ref 0)) → P (Of_object (host_ref 5)) → (a : Identity Ref MadeSymbol) → IsAmong a (gift_identities (root_gift 1)) → P a
three P clock console input a h =
    ⊎_elim
    (λ e. subst P (sym e) clock)
    (λ k. ⊎_elim (λ e. subst P (sym e) console) (λ z. ⊎_elim (λ e. subst P (sym e) input) (λ w. absurd w) z) k)
    h

module _ (shared : Shared) (main : List ℕ) (modules : List Loaded) (outside : List OutsideCall → OutsideAnswer) where
  abbrev app : Application
  app = alone shared main modules outside

  abbrev Marked : Identity Ref MadeSymbol → Type 0
  Marked (Of_object r) = HasMark (find_mark r app.marks)
  Marked (Of_symbol s) = Unit {0}

  marked : (p : ℕ) (a : Identity Ref MadeSymbol) → IsAmong a (gift_identities (root_gift p)) → Marked a
  marked zero a h = absurd h
  marked (suc zero) a h = three Marked (plain_marks, refl) (plain_marks, refl) (plain_marks, refl) a h
  marked (suc (suc p)) a h = absurd h

  listed : (p : ℕ) (a : Identity Ref MadeSymbol) → IsAmong a (gift_identities (root_gift p)) → IsAmong a (app.starts p)
  listed zero a h = absurd h
  listed (suc zero) a h = three (λ b. IsAmong b (app.starts 1)) (inr (inr (inl refl))) (inl refl) (inr (inl refl)) a h
  listed (suc (suc p)) a h = absurd h

  has_left : (p : ℕ) (a : Identity Ref MadeSymbol) → IsAmong a (gift_identities (root_gift p)) → IsAmong a (left_first (owner a) (app.left (owner a)))
  has_left zero a h = absurd h
  has_left (suc zero) a h = three (λ b. IsAmong b (left_first (owner b) (app.left (owner b)))) (inl refl) (inr (inr (inl refl))) (inr (inl refl)) a h
  has_left (suc (suc p)) a h = absurd h

  stands : (p : ℕ) → IsPackage (suc p) (root_gift (suc p)) (app.own (suc p))
  stands zero = record { name = codes "$root$"; main = main; modules = modules; links = []; starts = inl refl }
  stands (suc p) = record { name = []; main = []; modules = []; links = []; starts = inr refl }

  is_given : IsGiven app root_gift
  is_given = record {
    host = refl;
    packages = stands;
    marked = λ p r foreign h. marked p (Of_object r) h;
    listed = λ p a foreign h. listed p a h;
    left = λ p a foreign h. has_left p a h;
  }

pub alone_is_well_made : Alone_is_well_made
alone_is_well_made shared main modules outside = given_is_well_made (alone shared main modules outside) root_gift (is_given shared main modules outside)
