-- Where a name leads, by the directory that is looked at first.
use Rattle.std.proofs.Common.{◌≡◌, ℕ, ◌+◌, List, [], ◌∷◌, ◌++◌, map, Bool, not, cond, position, Some, None, String, string_bytes, bytes_eq, refl, ap}
use Rattle.std.specs.declared.alloc.Global.{Global}
use Rattle.std.specs.List.{prefix_len}
use Rattle.std.proofs.lemmas.List.{length-map}
use Rattle.pkg_graph.specs.Worlds.{World, package_dir, directories_above, first_above}
use Rattle.pkg_graph.specs.Reading.{nearest}
use Rattle.pkg_graph.specs.declared.standing.Standing.{Standing}
use Rattle.pkg_graph.specs.declared.nearest.Nearest.TheVariants.{Nowhere, Known, New}

prefix_len-texts : (p : List ℕ → Bool) (keys : List (String Global)) → prefix_len (λ k. p (string_bytes k)) keys ≡ prefix_len p (map string_bytes keys)
prefix_len-texts p [] = refl
prefix_len-texts p (k ∷ keys) = ap (λ (n : ℕ). cond (p (string_bytes k)) (1 + n) 0) (prefix_len-texts p keys)

pub position-texts : (p : List ℕ → Bool) (keys : List (String Global)) → position (λ k. p (string_bytes k)) keys ≡ position p (map string_bytes keys)
position-texts p keys =
    rw (prefix_len-texts (λ x. not (p x)) keys, length-map keys string_bytes) refl

-- a directory is the first of those above it
pub above_head : (s : List ℕ) → (more : List (List ℕ)) × (directories_above s ≡ s ∷ more)
above_head [] = ([], refl)
above_head (b ∷ s) =
    let head = above_head s in
    (map (λ t. b ∷ t) head.0 ++ first_above b, ap (λ (l : List (List ℕ)). map (λ t. b ∷ t) l ++ first_above b) head.1)

pub nearest_known : (world : World) (dirs : List (List ℕ)) (s name : List ℕ) (place : ℕ) → position (bytes_eq (package_dir s name)) dirs ≡ Some place → Known place ≡ nearest world dirs (directories_above s) name
nearest_known world dirs s name place is = rw ((above_head s).1, is) refl

pub nearest_is_new : (world : World) (dirs : List (List ℕ)) (s name : List ℕ) (standing : Standing) → position (bytes_eq (package_dir s name)) dirs ≡ None → world (package_dir s name) ≡ Some standing → New (package_dir s name) standing ≡ nearest world dirs (directories_above s) name
nearest_is_new world dirs s name standing new is = rw ((above_head s).1, new, is) refl

pub nearest_is_above : (world : World) (dirs : List (List ℕ)) (s name : List ℕ) (above : List (List ℕ)) → directories_above s ≡ s ∷ above → position (bytes_eq (package_dir s name)) dirs ≡ None → world (package_dir s name) ≡ None → nearest world dirs (directories_above s) name ≡ nearest world dirs above name
nearest_is_above world dirs s name above is new none = rw (is, new, none) refl

pub nearest_ends : (world : World) (dirs : List (List ℕ)) (s name : List ℕ) → directories_above s ≡ s ∷ [] → position (bytes_eq (package_dir s name)) dirs ≡ None → world (package_dir s name) ≡ None → Nowhere ≡ nearest world dirs (directories_above s) name
nearest_ends world dirs s name is new none = rw (is, new, none) refl
