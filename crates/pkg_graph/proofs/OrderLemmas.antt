-- Names that are put in order, one after the other.
use Rattle.std.proofs.Common.{◌≡◌, ℕ, ◌+◌, ◌<◌, true, false, cond, List, [], ◌∷◌, ◌++◌, length, get_or, drop, map, fold, String, string_bytes, bytes_eq, refl, sym, ap, ◌∙◌}
use Rattle.std.specs.declared.alloc.Global.{Global}
use Rattle.std.specs.String.{string_cmp, string_eq}
use Rattle.std.specs.BTreeSet.{insert_key as put_key}
use Rattle.std.specs.List.{list_any}
use Rattle.std.proofs.lemmas.List.{drop_more, append_assoc, map-append}
use Rattle.indexmap.specs.IndexSet.{insert_key}
use Rattle.lava_streams.specs.Files.{with_name}
use Rattle.pkg_graph.specs.Naming.{with_first}
use Rattle.pkg_graph.proofs.GatheringLemmas.{texts-insert_key}
use Rattle.pkg_graph.proofs.ReadingLemmas.{list_any-texts}

-- one more name is put in its place
pub in_order_more : (names : List (List ℕ)) (at : ℕ) (name : List ℕ) (keys more : List (String Global)) (key : String Global) → at < length names → name ≡ get_or names at name → more ≡ put_key string_cmp keys key → string_bytes key ≡ name → fold with_name (map string_bytes keys) (drop at names) ≡ fold with_name (map string_bytes more) (drop (at + 1) names)
in_order_more names at name keys more key lt is put same =
    rw (drop_more names at name lt, ← is, put, texts-insert_key keys key, same) refl

texts-with_first : (keys : List (String Global)) (key : String Global) → map string_bytes (insert_key string_eq keys key) ≡ with_first (map string_bytes keys) (string_bytes key)
texts-with_first keys key =
    rw (sym (list_any-texts (bytes_eq (string_bytes key)) keys))
    (elim (list_any (string_eq key) keys) as (λ b. map string_bytes (cond b keys (keys ++ key ∷ [])) ≡ cond b (map string_bytes keys) (map string_bytes keys ++ string_bytes key ∷ [])) [
      | true ↦ refl
      | false ↦ map-append string_bytes keys (key ∷ [])
    ])

-- one more name has its first place
pub first_places_more : (names : List (List ℕ)) (at : ℕ) (name : List ℕ) (keys more : List (String Global)) (key : String Global) → at < length names → name ≡ get_or names at name → more ≡ insert_key string_eq keys key → string_bytes key ≡ name → fold with_first (map string_bytes keys) (drop at names) ≡ fold with_first (map string_bytes more) (drop (at + 1) names)
first_places_more names at name keys more key lt is put same =
    rw (drop_more names at name lt, ← is) (ap (λ (l : List (List ℕ)). fold with_first l (drop (at + 1) names)) (sym (ap (map string_bytes) put ∙ texts-with_first keys key ∙ ap (with_first (map string_bytes keys)) same)))

-- one more item is made of the next
pub map_more : {A B : Type 0} (f : A → B) (all : List B) (xs : List A) (at : ℕ) (x : A) (done more : List B) (y : B) → at < length xs → x ≡ get_or xs at x → all ≡ done ++ map f (drop at xs) → more ≡ done ++ y ∷ [] → y ≡ f x → all ≡ more ++ map f (drop (at + 1) xs)
map_more {B = B} f all xs at x done more y lt is so_far put made =
    let next : drop at xs ≡ x ∷ drop (at + 1) xs = rw (drop_more xs at x lt, ← is) refl in
    let rest : List B = map f (drop (at + 1) xs) in
    let here : map f (drop at xs) ≡ y ∷ rest = ap (map f) next ∙ ap (λ (z : B). z ∷ rest) (sym made) in
    so_far ∙ ap (λ (l : List B). done ++ l) here ∙ sym (append_assoc done (y ∷ []) rest) ∙ ap (λ (l : List B). l ++ rest) (sym put)
