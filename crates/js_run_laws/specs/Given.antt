-- What starts name of others: what the packages are given, and nothing else.
use Rattle.std.specs.Prelude.{◌≡◌, ℕ, zero, suc, true, false, List, [], ◌∷◌, ◌++◌, Option, None, ◌⊎◌, codes}
use Rattle.lava_base.specs.declared.ids.MadeSymbol.{MadeSymbol}
use Rattle.lava_base.specs.declared.ids.Ref.{Ref}
use Rattle.js_text.specs.Identities.{Identity, Of_object, value_identities}
use Rattle.js_text.specs.Naming.{Foreign, origin_of}
use Rattle.js_text.specs.declared.value.Key.{Key}
use Rattle.js_text.specs.declared.value.Value.{Value}
use Rattle.js_desc.specs.Identities.{all_identities, option_identities}
use Rattle.js_desc.specs.declared.descriptor.Descriptor.{Descriptor}
use Rattle.js_store.specs.Identities.{property_identities}
use Rattle.js_store.specs.Objects.{plain_marks}
use Rattle.js_run.specs.Identities.{IsAmong}
use Rattle.js_run.specs.Journal.{Application, find_mark}
use Rattle.js_run.specs.Laws.{HasMark, IsWellMade, is_foreign, left_first, owner}
use Rattle.js_run.specs.Outside.{OutsideCall, OutsideAnswer}
use Rattle.js_run.specs.Parties.{Loaded, Party, Shared}
use Rattle.js_run.specs.Starts.{blank, host_party, host_ref, package_party, root_endowments}

-- what a package is given: properties of its global, and what its `require` of a part of the host gives
pub record Gift : Type 0 where
  pub properties : List (Key MadeSymbol × Descriptor Ref MadeSymbol)
  pub builtin : Option (Value Ref MadeSymbol)

abbrev pub gift_identities : Gift → List (Identity Ref MadeSymbol)
gift_identities g = all_identities property_identities g.properties ++ option_identities value_identities g.builtin

-- it is the party of a package with this gift, or one that is not made yet
pub record IsPackage (p : ℕ) (g : Gift) (own : Party Ref MadeSymbol) : Type 0 where
  pub name : List ℕ
  pub main : List ℕ
  pub modules : List Loaded
  pub links : List (List ℕ)
  pub starts : (own ≡ package_party p name main modules links g.builtin g.properties) ⊎ (own ≡ blank)

-- the host stands first, and what is given of others is marked, listed, and has left its owner
pub record IsGiven (app : Application) (gifts : ℕ → Gift) : Type 0 where
  pub host : app.own 0 ≡ host_party
  pub packages : (p : ℕ) → IsPackage (suc p) (gifts (suc p)) (app.own (suc p))
  pub marked : (p : ℕ) (r : Ref) → origin_of p r ≡ Foreign → IsAmong (Of_object r) (gift_identities (gifts p)) → HasMark (find_mark r app.marks)
  pub listed : (p : ℕ) (a : Identity Ref MadeSymbol) → is_foreign p a ≡ true → IsAmong a (gift_identities (gifts p)) → IsAmong a (app.starts p)
  pub left : (p : ℕ) (a : Identity Ref MadeSymbol) → is_foreign p a ≡ true → IsAmong a (gift_identities (gifts p)) → IsAmong a (left_first (owner a) (app.left (owner a)))

-- an application is well made where that holds of what the packages are given
abbrev pub Given_is_well_made : Type 0
Given_is_well_made = (app : Application) (gifts : ℕ → Gift) → IsGiven app gifts → IsWellMade app

-- THE PREMISE IS MET: an application of its own package alone, which is given the whole host

abbrev pub alone_own : (main : List ℕ) → List Loaded → ℕ → Party Ref MadeSymbol
alone_own main modules zero = host_party
alone_own main modules (suc zero) = package_party 1 (codes "$root$") main modules [] None root_endowments
alone_own main modules (suc (suc p)) = blank

abbrev pub alone_starts : ℕ → List (Identity Ref MadeSymbol)
alone_starts zero = []
alone_starts (suc zero) = Of_object (host_ref 0) ∷ Of_object (host_ref 5) ∷ Of_object (host_ref 7) ∷ []
alone_starts (suc (suc p)) = []

abbrev pub alone_left : ℕ → List ℕ
alone_left zero = 7 ∷ 5 ∷ 0 ∷ []
alone_left (suc p) = []

abbrev pub alone : Shared → (main : List ℕ) → List Loaded → (List OutsideCall → OutsideAnswer) → Application
alone shared main modules outside =
    record {
      shared = shared;
      own = alone_own main modules;
      count = 2;
      links = λ p l. 1;
      allows = λ p q. false;
      starts = alone_starts;
      left = alone_left;
      marks = (host_ref 0, plain_marks) ∷ (host_ref 5, plain_marks) ∷ (host_ref 7, plain_marks) ∷ [];
      outside = outside;
    }

abbrev pub Alone_is_well_made : Type 0
Alone_is_well_made = (shared : Shared) (main : List ℕ) (modules : List Loaded) (outside : List OutsideCall → OutsideAnswer) → IsWellMade (alone shared main modules outside)
