-- Names that are gathered in a set, one after the other.
use Rattle.std.proofs.Common.{◌≡◌, ℕ, true, false, Bool, List, [], ◌∷◌, map, fold, Some, None, String, string_bytes, refl, sym, ap, cond, ◌&&◌}
use Rattle.std.specs.declared.alloc.Global.{Global}
use Rattle.std.specs.declared.cmp.Ordering.TheVariants.{Less, Equal, Greater}
use Rattle.std.specs.Ordering.{nat_cmp, match_ordering}
use Rattle.std.specs.Cmp.Lexicographic.{slice_cmp}
use Rattle.std.specs.String.{string_cmp}
use Rattle.std.specs.BTreeSet.{insert_key}
use Rattle.std.specs.List.{list_all}
use Rattle.serde_json.specs.declared.value.Value.{Value}
use Rattle.serde_json.specs.View.{members_view}
use Rattle.lava_streams.specs.Files.{with_name}
use Rattle.pkg_graph.specs.PackageNames.{is_package_name}
use Rattle.pkg_graph.specs.Manifests.{member_names}
use Rattle.pkg_graph.specs.Gathering.{Gathers}

-- a key that is put in its place is a name that is put in its place
pub texts-insert_key : (keys : List (String Global)) (key : String Global) → map string_bytes (insert_key string_cmp keys key) ≡ with_name (map string_bytes keys) (string_bytes key)
texts-insert_key [] key = refl
texts-insert_key (k ∷ ks) key =
    elim (slice_cmp nat_cmp (string_bytes key) (string_bytes k)) as (λ r. map string_bytes (match_ordering r (key ∷ k ∷ ks) (k ∷ ks) (k ∷ insert_key string_cmp ks key)) ≡ match_ordering r (string_bytes key ∷ string_bytes k ∷ map string_bytes ks) (string_bytes k ∷ map string_bytes ks) (string_bytes k ∷ with_name (map string_bytes ks) (string_bytes key))) [
      | Less ↦ refl
      | Equal ↦ refl
      | Greater ↦ ap (λ (l : List (List ℕ)). string_bytes k ∷ l) (texts-insert_key ks key)
    ]

-- the keys of an object are those of its map
pub member_names-view : (entries : List (String Global × Value)) → member_names (members_view entries) ≡ map string_bytes (map (λ e. e.0) entries)
member_names-view [] = refl
member_names-view (e ∷ es) = ap (λ (l : List (List ℕ)). string_bytes e.0 ∷ l) (member_names-view es)

-- where all keys are names, they are given, and else none is
pub gathers : (given : List (List ℕ)) (before after : List (List ℕ)) (b : Bool) → list_all is_package_name given ≡ b → (b ≡ true → fold with_name before given ≡ after) → Gathers (cond (list_all is_package_name given) (Some given) None) before after b
gathers given before after true all e = rw all (refl, sym (e refl))
gathers given before after false all e = rw all refl

-- one more key is a name
pub all_more : (it rest : List (String Global)) (key : String Global) (b : Bool) → it ≡ key ∷ rest → is_package_name (string_bytes key) ≡ b → list_all is_package_name (map string_bytes it) ≡ (b && list_all is_package_name (map string_bytes rest))
all_more it rest key b is name = rw (is, name) refl

-- one more key is put in its place
pub fold_more : (it rest keys more : List (String Global)) (key copy : String Global) → it ≡ key ∷ rest → more ≡ insert_key string_cmp keys copy → string_bytes copy ≡ string_bytes key → fold with_name (map string_bytes keys) (map string_bytes it) ≡ fold with_name (map string_bytes more) (map string_bytes rest)
fold_more it rest keys more key copy is put same = rw (is, put, texts-insert_key keys copy, same) refl
