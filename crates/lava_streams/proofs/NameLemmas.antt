-- Names in a directory.
use Rattle.std.proofs.Common.{◌≡◌, ◌≢◌, ℕ, ◌+◌, ◌<◌, ◌==◌, true, false, List, [], ◌∷◌, ◌++◌, length, drop, get_or, fold, nat_eq, Option, Some, None, MatchOption, Bor, refl, sym, ◌∙◌, ap, ⊎_elim}
use Rattle.std.specs.List.{starts_with, before_first, cons_option}
use Rattle.std.proofs.lemmas.Bool.{cases_Bool}
use Rattle.std.proofs.lemmas.Bool.Decides.{Decides-eqb}
use Rattle.std.proofs.lemmas.List.{append_assoc, append_cancel_left, drop_more, drop_at, length_push}
use Rattle.std.proofs.lemmas.Slice.Eq.{starts_is}
use Rattle.lava_streams.specs.Files.{name_in, names_in, with_name}
use Rattle.lava_streams.specs.Steps.{with_name_of}

-- a path below the directory
pub name_in_below : (dir path rest : List ℕ) → path ≡ dir ++ 47 ∷ rest → name_in dir path ≡ Some (before_first (λ b. b == 47) rest)
name_in_below dir path rest e =
    let whole : path ≡ (dir ++ 47 ∷ []) ++ rest = e ∙ sym (append_assoc dir (47 ∷ []) rest) in
    let starts : starts_with nat_eq path (dir ++ 47 ∷ []) ≡ true =
    (starts_is Decides-eqb path (dir ++ 47 ∷ []) (starts_with nat_eq path (dir ++ 47 ∷ [])) refl).1 rest whole in
    let cut : drop (length dir + 1) path ≡ rest =
    ap (drop (length dir + 1)) whole ∙ drop_at (dir ++ 47 ∷ []) rest (length dir + 1) (length_push dir 47) in
    rw (starts, cut) refl

-- any other path
pub name_in_other : (dir path : List ℕ) → ((rest : List ℕ) → path ≡ dir ++ 47 ∷ rest → ⊥) → name_in dir path ≡ None
name_in_other dir path other =
    ⊎_elim
    (λ (yes : starts_with nat_eq path (dir ++ 47 ∷ []) ≡ true).
    let whole : path ≡ (dir ++ 47 ∷ []) ++ drop (length (dir ++ 47 ∷ [])) path =
    (starts_is Decides-eqb path (dir ++ 47 ∷ []) (starts_with nat_eq path (dir ++ 47 ∷ [])) refl).0 yes in
    absurd (other (drop (length (dir ++ 47 ∷ [])) path) (whole ∙ append_assoc dir (47 ∷ []) (drop (length (dir ++ 47 ∷ [])) path))))
    (λ (no : starts_with nat_eq path (dir ++ 47 ∷ []) ≡ false). rw no refl)
    (cases_Bool (starts_with nat_eq path (dir ++ 47 ∷ [])))

-- a path whose rest begins with the `/`
pub stands_below : (dir path mid : List ℕ) (r : Option (Bor (List ℕ))) → path ≡ dir ++ mid → MatchOption r ((rest : List ℕ) → mid ≢ 47 ∷ rest) (λ x. mid ≡ 47 ∷ x.now) → MatchOption r ((rest : List ℕ) → path ≢ dir ++ 47 ∷ rest) (λ x. path ≡ dir ++ 47 ∷ x.now)
stands_below dir path mid None whole none = λ rest e. none rest (append_cancel_left dir mid (47 ∷ rest) (sym whole ∙ e))
stands_below dir path mid (Some x) whole some = whole ∙ ap (λ (t : List ℕ). dir ++ t) some

fold_with_name_of : (names : List (List ℕ)) (name : Option (List ℕ)) (rest : List (List ℕ)) → fold with_name names (cons_option name rest) ≡ fold with_name (with_name_of names name) rest
fold_with_name_of names None rest = refl
fold_with_name_of names (Some name) rest = refl

-- one more file
pub fold-names_in_more : (files : List (List ℕ × List ℕ)) (dir : List ℕ) (names : List (List ℕ)) (at : ℕ) (file : List ℕ × List ℕ) → at < length files → file ≡ get_or files at file → fold with_name names (names_in (drop at files) dir) ≡ fold with_name (with_name_of names (name_in dir file.0)) (names_in (drop (at + 1) files) dir)
fold-names_in_more files dir names at file lt is =
    rw (drop_more files at file lt, ← is) (fold_with_name_of names (name_in dir file.0) (names_in (drop (at + 1) files) dir))
