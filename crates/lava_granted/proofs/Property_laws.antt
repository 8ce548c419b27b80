-- The global of a package has the intrinsics, and what its row grants.
use Rattle.std.proofs.Common.{◌≡◌, ℕ, ◌+◌, ◌&&◌, Bool, true, false, cond, List, [], ◌∷◌, ◌++◌, length, Option, Some, None, refl, ap, ◌∙◌, sym, subst, ⊎_elim, true≢false, if◌then◌else◌}
use Rattle.std.proofs.lemmas.Bool.{and_parts, cond-true, cond-false, ltb-true, or_cases}
use Rattle.std.proofs.lemmas.Slice.Eq.{bytes_eq-Decides}
use Rattle.std.specs.List.{list_all, list_any}
use Rattle.std.specs.Map.{lookup}
use Rattle.std.specs.Prelude.{bytes_eq, is_some, nat_lt}
use Rattle.js_desc.specs.declared.descriptor.Descriptor.{Descriptor}
use Rattle.js_desc.specs.declared.start.Grant.{Grant}
use Rattle.js_store.specs.Objects.{goes_before, ordinary_get_own_property, written}
use Rattle.js_text.specs.CommonPaths.{common_paths}
use Rattle.js_text.specs.Naming.{naming_of}
use Rattle.js_text.specs.Texts.{utf8_of}
use Rattle.js_text.specs.Utf8.{units_of}
use Rattle.js_text.specs.Values.{same_key}
use Rattle.js_text.specs.declared.value.Key.{Key}
use Rattle.js_text.specs.declared.value.Key.TheVariants as key
use Rattle.lava_base.specs.Ids.{same_made_symbol}
use Rattle.lava_base.specs.declared.ids.MadeSymbol.{MadeSymbol}
use Rattle.lava_base.specs.declared.ids.Ref.{Ref}
use Rattle.lava_packages.specs.lava_start.Grants.{Granted, Supply, global_supply, key_of_name, supplied_properties, with_properties}
use Rattle.lava_packages.specs.lava_start.js_run.Globals.{default_properties}
use Rattle.policy_globals.specs.Hosts.{is_intrinsic}
use Rattle.policy_globals.specs.declared.intrinsic.TheConstants.{INTRINSICS}
use Rattle.lava_granted.proofs.Text_laws.{AllAscii, ascii_units}

abbrev pub Properties : Type 0
Properties = List (Key MadeSymbol × Descriptor Ref MadeSymbol)

abbrev pub has : Key MadeSymbol → Properties → Bool
has k ps = is_some (ordinary_get_own_property same_made_symbol k ps)

abbrev pub same : Key MadeSymbol → Key MadeSymbol → Bool
same = same_key same_made_symbol

-- WRITTEN PROPERTIES

some_by : {X : Type 0} (b : Bool) (x : X) (o : Option X) → (b ≡ false → is_some o ≡ true) → is_some (cond b (Some x) o) ≡ true
some_by true x o h = refl
some_by false x o h = h refl

else_some : {X : Type 0} (b : Bool) (x : X) (o : Option X) → b ≡ false → is_some (cond b (Some x) o) ≡ true → is_some o ≡ true
else_some b x o none e = sym (ap is_some (cond-false b (Some x) o none)) ∙ e

abbrev put : (here before : Bool) → Key MadeSymbol → Descriptor Ref MadeSymbol → Key MadeSymbol × Descriptor Ref MadeSymbol → (ps rest : Properties) → Properties
put here before k d p ps rest = if here then (p.0, d) ∷ ps else (if before then (k, d) ∷ p ∷ ps else p ∷ rest)

put_keeps : (k other : Key MadeSymbol) (here before : Bool) (d : Descriptor Ref MadeSymbol) (p : Key MadeSymbol × Descriptor Ref MadeSymbol) (ps rest : Properties) → has k (p ∷ ps) ≡ true
    → (has k ps ≡ true → has k rest ≡ true) → has k (put here before other d p ps rest) ≡ true
put_keeps k other true before d p ps rest e h = some_by (same k p.0) d (lookup (same k) ps) (λ none. else_some (same k p.0) p.1 (lookup (same k) ps) none e)
put_keeps k other false true d p ps rest e h = some_by (same k other) d (lookup (same k) (p ∷ ps)) (λ none. e)
put_keeps k other false false d p ps rest e h = some_by (same k p.0) p.1 (lookup (same k) rest) (λ none. h (else_some (same k p.0) p.1 (lookup (same k) ps) none e))

-- a property that is written takes none away
written_keeps : (k other : Key MadeSymbol) (d : Descriptor Ref MadeSymbol) (ps : Properties) → has k ps ≡ true → has k (written same_made_symbol other d ps) ≡ true
written_keeps k other d [] e = absurd (true≢false (sym e))
written_keeps k other d (p ∷ ps) e = put_keeps k other (same other p.0) (goes_before other p.0) d p ps (written same_made_symbol other d ps) e (written_keeps k other d ps)

put_has : (k : Key MadeSymbol) (here before : Bool) (d : Descriptor Ref MadeSymbol) (p : Key MadeSymbol × Descriptor Ref MadeSymbol) (ps rest : Properties) → same k k ≡ true → same k p.0 ≡ here
    → has k rest ≡ true → has k (put here before k d p ps rest) ≡ true
put_has k true before d p ps rest own at e = ap is_some (cond-true (same k p.0) (Some d) (lookup (same k) ps) at)
put_has k false true d p ps rest own at e = ap is_some (cond-true (same k k) (Some d) (lookup (same k) (p ∷ ps)) own)
put_has k false false d p ps rest own at e = some_by (same k p.0) p.1 (lookup (same k) rest) (λ none. e)

-- and is there
written_has : (k : Key MadeSymbol) (d : Descriptor Ref MadeSymbol) (ps : Properties) → same k k ≡ true → has k (written same_made_symbol k d ps) ≡ true
written_has k d [] own = ap is_some (cond-true (same k k) (Some d) None own)
written_has k d (p ∷ ps) own = put_has k (same k p.0) (goes_before k p.0) d p ps (written same_made_symbol k d ps) own refl (written_has k d ps own)

pub all_keep : (k : Key MadeSymbol) (xs ps : Properties) → has k ps ≡ true → has k (with_properties xs ps) ≡ true
all_keep k [] ps e = e
all_keep k (x ∷ xs) ps e = all_keep k xs (written same_made_symbol x.0 x.1 ps) (written_keeps k x.0 x.1 ps e)

-- GRANTED GLOBALS

module _ (p : ℕ) (T : List ℕ × Grant → Bool) (name : List ℕ) where
  -- a name that some grant has is there
  pub granted_is_there : (k : Key MadeSymbol) → key_of_name name ≡ k → same k k ≡ true → (n : ℕ) (globals : Granted) (ps : Properties)
      → list_any (λ g. bytes_eq name g.0 && T g) globals ≡ true → has k (with_properties (supplied_properties (global_supply p) n globals) ps) ≡ true
  granted_is_there k is own n [] ps e = absurd (true≢false (sym e))
  granted_is_there k is own n (g ∷ gs) ps e =
      let s : Supply (List ℕ × Grant) = global_supply p in
      let more = n + length (s.objects n g) in
      let next = written same_made_symbol (s.key g) (s.property n g) ps in
      ⊎_elim
      (λ this.
      let at : s.key g ≡ k = ap key_of_name (sym ((bytes_eq-Decides name g.0).0 (and_parts (bytes_eq name g.0) (T g) this).0)) ∙ is in
      all_keep k (supplied_properties s more gs) next (subst (λ x. has k (written same_made_symbol x (s.property n g) ps) ≡ true) (sym at) (written_has k (s.property n g) ps own)))
      (λ rest. granted_is_there k is own more gs next rest)
      (or_cases (bytes_eq name g.0 && T g) (list_any (λ x. bytes_eq name x.0 && T x) gs) e)

-- INTRINSICS

pub both_at : {X : Type 0} (P Q : X → Bool) (xs : List X) → list_any P xs ≡ true → list_all Q xs ≡ true → (x : X) × (P x ≡ true) × (Q x ≡ true)
both_at P Q [] e all = absurd (true≢false (sym e))
both_at P Q (x ∷ xs) e all =
    let parts = and_parts (Q x) (list_all Q xs) all in
    ⊎_elim (λ this. (x, this, parts.0)) (λ rest. both_at P Q xs rest parts.1) (or_cases (P x) (list_any P xs) e)

abbrev pub first_properties : (p : ℕ) → Properties
first_properties p = default_properties (naming_of p) ++ []

abbrev is_first : (p : ℕ) → (name : List ℕ) → Bool
is_first p name = list_all (λ b. nat_lt b 128) name && has (key.Text name) (first_properties p)

-- each intrinsic's name is in ASCII, and stands at each global
all_first : (p : ℕ) → list_all (λ name. is_first p name.now) INTRINSICS ≡ true
unfolding common_paths
all_first p = refl

below : (name : List ℕ) → list_all (λ b. nat_lt b 128) name ≡ true → AllAscii name
below [] e = tt
below (b ∷ name) e = let parts = and_parts (nat_lt b 128) (list_all (λ c. nat_lt c 128) name) e in (ltb-true b 128 parts.0, below name parts.1)

pub intrinsic_is_there : (p : ℕ) (name : List ℕ) → units_of (utf8_of name) ≡ name → is_intrinsic (utf8_of name) ≡ true → has (key.Text name) (first_properties p) ≡ true
intrinsic_is_there p name text e =
    let at = both_at (λ other. bytes_eq (utf8_of name) other.now) (λ other. is_first p other.now) INTRINSICS e (all_first p) in
    let word : List ℕ = at.0.now in
    let parts = and_parts (list_all (λ b. nat_lt b 128) word) (has (key.Text word) (first_properties p)) at.2 in
    let is : name ≡ word = sym text ∙ ap units_of ((bytes_eq-Decides (utf8_of name) word).0 at.1) ∙ ascii_units word (below word parts.0) in
    subst (λ n. has (key.Text n) (first_properties p) ≡ true) (sym is) parts.1
