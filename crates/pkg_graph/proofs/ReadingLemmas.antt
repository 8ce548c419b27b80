-- The directories above one, and what one more package does to the packages.
use Rattle.std.proofs.Common.{◌≡◌, ◌≢◌, ℕ, suc, ◌<◌, false, List, [], ◌∷◌, ◌++◌, length, get_or, map, take, drop, ◌==◌, lit<, Bool, ◌||◌, String, string_bytes, bytes_eq, refl, sym, ap, ◌∙◌, subst, arith}
use Rattle.std.specs.declared.alloc.Global.{Global}
use Rattle.std.specs.String.{string_eq}
use Rattle.std.specs.List.{list_any}
use Rattle.std.proofs.lemmas.Bool.{ne_eqb}
use Rattle.std.proofs.lemmas.List.{map-append, take-append-drop}
use Rattle.std.proofs.lemmas.Str.Pattern.{NoCharPasses-char, drop_at_char}
use Rattle.std.specs.Str.{NoCharPasses}
use Rattle.std.specs.Str.Pattern.{HasCharAt}
use Rattle.indexmap.specs.IndexSet.{insert_key}
use Rattle.pkg_graph.specs.Worlds.{directories_above}
use Rattle.pkg_graph.specs.Reading.{told_dir}
use Rattle.pkg_graph.specs.declared.limits.TheConstants.{APPLICATION}

-- no `/` stands in it
pub above_none : (s : List ℕ) → ((i : ℕ) → i < length s → get_or s i 0 ≢ 47) → directories_above s ≡ s ∷ []
above_none [] none = refl
above_none (b ∷ s) none =
    let rest = above_none s (λ i lt. none (suc i) (omega arith)) in
    let first = ne_eqb b 47 (none 0 (omega arith)) in
    rw (rest, first) refl

-- the last `/` stands before the rest
pub above_some : (up rest : List ℕ) → ((i : ℕ) → i < length rest → get_or rest i 0 ≢ 47) → directories_above (up ++ 47 ∷ rest) ≡ (up ++ 47 ∷ rest) ∷ directories_above up
above_some [] rest none = rw (above_none rest none) refl
above_some (b ∷ up) rest none = rw (above_some up rest none) refl

pub above_without : (s : List ℕ) → NoCharPasses (λ d. d == 47) s → directories_above s ≡ s ∷ []
above_without s none = above_none s (λ i lt. NoCharPasses-char 47 s i none (lit< tt) lt)

pub above_split : (s up : List ℕ) (i j : ℕ) → NoCharPasses (λ d. d == 47) (drop j s) → HasCharAt 47 s i j → up ≡ take i s → directories_above s ≡ s ∷ directories_above up
above_split s up i j none has is =
    let whole : take i s ++ 47 ∷ drop j s ≡ s = ap (λ (t : List ℕ). take i s ++ t) (sym (drop_at_char 47 s i j has (lit< tt))) ∙ take-append-drop i s in
    let split = above_some (take i s) (drop j s) (λ k lt. NoCharPasses-char 47 (drop j s) k none (lit< tt) lt) in
    rw is (subst (λ (t : List ℕ). directories_above t ≡ t ∷ directories_above (take i s)) whole split)

pub told_dir_none : (dir : List ℕ) → ((rest : List ℕ) → dir ≢ 47 ∷ rest) → told_dir dir ≡ APPLICATION.now
told_dir_none [] none = refl
told_dir_none (b ∷ path) none = rw (ne_eqb b 47 (λ e. none path (ap (λ (x : ℕ). x ∷ path) e))) refl

pub list_any-texts : (p : List ℕ → Bool) (keys : List (String Global)) → list_any (λ k. p (string_bytes k)) keys ≡ list_any p (map string_bytes keys)
list_any-texts p [] = refl
list_any-texts p (k ∷ keys) = ap (λ (b : Bool). p (string_bytes k) || b) (list_any-texts p keys)

-- a new key goes last
pub texts_more : (keys more : List (String Global)) (key : String Global) (text : List ℕ) → more ≡ insert_key string_eq keys key → string_bytes key ≡ text → list_any (bytes_eq text) (map string_bytes keys) ≡ false → map string_bytes more ≡ map string_bytes keys ++ text ∷ []
texts_more keys more key text put is new =
    let absent : list_any (string_eq key) keys ≡ false =
    list_any-texts (bytes_eq (string_bytes key)) keys ∙ ap (λ (t : List ℕ). list_any (bytes_eq t) (map string_bytes keys)) is ∙ new in
    rw (put, absent) (map-append string_bytes keys (key ∷ []) ∙ ap (λ (t : List ℕ). map string_bytes keys ++ t ∷ []) is)
