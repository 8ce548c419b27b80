-- Tests over lists.
use Rattle.std.proofs.Common.{◌≡◌, ℕ, List, [], ◌∷◌, ◌++◌, Bool, true, false, ◌&&◌, ◌||◌, not, Option, Some, None, filter_map, fold, map, bytes_eq, refl, sym, ap, ◌∙◌}
use Rattle.std.proofs.lemmas.List.Folds.{list_any-append}
use Rattle.std.proofs.lemmas.Slice.Eq.{bytes_eq-Decides}
use Rattle.std.specs.List.{list_all, list_any, flat_map, cons_option}
use Rattle.std.specs.Option.{unwrap_or}

pub clash : {Y : Type 0} → true ≡ false → Y
clash h = absurd (apart h)
  where
    apart : true ≡ false → ⊥
    apart e = cc

pub not_some : {X Y : Type 0} (x : X) → None ≡ Some x → Y
not_some x h = absurd (apart h)
  where
    apart : None ≡ Some x → ⊥
    apart e = cc

pub unwrapped : {X : Type 0} (x y : X) → Some x ≡ Some y → x ≡ y
unwrapped x y e = ap (λ o. unwrap_or o x) e

pub same_bytes : (m n : List ℕ) → bytes_eq m n ≡ true → m ≡ n
same_bytes m n h = (bytes_eq-Decides m n).0 h

pub itself : (n : List ℕ) → bytes_eq n n ≡ true
itself n = (bytes_eq-Decides n n).1 refl

pub or_first : (b c : Bool) → b ≡ true → (b || c) ≡ true
or_first true c h = refl
or_first false c h = clash (sym h)

pub or_second : (b c : Bool) → c ≡ true → (b || c) ≡ true
or_second true c h = refl
or_second false c h = h

pub and_both : (b c : Bool) → b ≡ true → c ≡ true → (b && c) ≡ true
and_both true c h more = more
and_both false c h more = h

pub and_first : (b c : Bool) → (b && c) ≡ true → b ≡ true
and_first true c h = refl
and_first false c h = h

pub and_second : (b c : Bool) → (b && c) ≡ true → c ≡ true
and_second true c h = h
and_second false c h = clash (sym h)

pub by_truth : (P : Type 0) (b : Bool) → (b ≡ true → P) → (b ≡ false → P) → P
by_truth P true f g = f refl
by_truth P false f g = g refl

-- two tests that imply each other
pub both_ways : (b c : Bool) → (b ≡ true → c ≡ true) → (c ≡ true → b ≡ true) → b ≡ c
both_ways true c f g = sym (f refl)
both_ways false true f g = g refl
both_ways false false f g = refl

pub falsely : (b : Bool) → (b ≡ true → ⊥) → b ≡ false
falsely true f = absurd (f refl)
falsely false f = refl

-- a test of what may be there
abbrev pub on_some : {X : Type 0} → (X → Bool) → Option X → Bool
on_some t None = false
on_some t (Some x) = t x

-- an item is in a list: each test that it passes finds one there
abbrev pub Among : {X : Type 0} → X → List X → Type 0
Among {X} x xs = (q : X → Bool) → q x ≡ true → list_any q xs ≡ true

pub first_among : {X : Type 0} (x : X) (xs : List X) → Among x (x ∷ xs)
first_among x xs q h = or_first (q x) (list_any q xs) h

pub later_among : {X : Type 0} (x y : X) (xs : List X) → Among x xs → Among x (y ∷ xs)
later_among x y xs among q h = or_second (q y) (list_any q xs) (among q h)

-- some item passes
module _ {X : Type 0} (t : X → Bool) where
  abbrev Found : List X → Type 0
  Found xs = (x : X) × (t x ≡ true) × Among x xs

  found_later : (x : X) (xs : List X) → Found xs → Found (x ∷ xs)
  found_later x xs found = (found.0, found.1, later_among found.0 x xs found.2)

  found_by : (x : X) (xs : List X) (b : Bool) → t x ≡ b → (b || list_any t xs) ≡ true → (list_any t xs ≡ true → Found xs) → Found (x ∷ xs)
  found_by x xs true is h more = (x, is, first_among x xs)
  found_by x xs false is h more = found_later x xs (more h)

  pub some_of : (xs : List X) → list_any t xs ≡ true → (x : X) × (t x ≡ true) × Among x xs
  some_of [] h = clash (sym h)
  some_of (x ∷ xs) h = found_by x xs (t x) refl h (λ is. some_of xs is)

-- each item passes
pub all_of : {X : Type 0} (t : X → Bool) (xs : List X) → ((x : X) → Among x xs → t x ≡ true) → list_all t xs ≡ true
all_of t [] each = refl
all_of t (x ∷ xs) each =
    and_both (t x) (list_all t xs) (each x (first_among x xs)) (all_of t xs (λ y among. each y (later_among y x xs among)))

some_fails_not : (t n : Bool) → t ≡ true → n ≡ false → (not t || n) ≡ false
some_fails_not true n h fails = fails
some_fails_not false n h fails = clash (sym h)

none_fails : {X : Type 0} (t : X → Bool) (xs : List X) → list_all t xs ≡ true → list_any (λ y. not (t y)) xs ≡ false
none_fails t [] all = refl
none_fails t (x ∷ xs) all =
    some_fails_not (t x) (list_any (λ y. not (t y)) xs) (and_first (t x) (list_all t xs) all) (none_fails t xs (and_second (t x) (list_all t xs) all))

pub all_at : {X : Type 0} (t : X → Bool) (xs : List X) (x : X) → list_all t xs ≡ true → Among x xs → t x ≡ true
all_at t xs x all among =
    by_truth (t x ≡ true) (t x) (λ is. is) (λ is. clash (sym (among (λ y. not (t y)) (ap not is)) ∙ none_fails t xs all))

-- no item passes
pub none_of : {X : Type 0} (t : X → Bool) (xs : List X) → ((x : X) → Among x xs → t x ≡ false) → list_any t xs ≡ false
none_of t xs each =
    falsely (list_any t xs) (λ is. let found = some_of t xs is in clash (sym found.1 ∙ each found.0 found.2))

-- two tests that agree at each item
pub any_same : {X : Type 0} (s t : X → Bool) (xs : List X) → ((x : X) → s x ≡ t x) → list_any s xs ≡ list_any t xs
any_same s t [] same = refl
any_same s t (x ∷ xs) same = rw (same x, any_same s t xs same) refl

-- a test beside a fixed one
pub any_and : {X : Type 0} (t : X → Bool) (b : Bool) (xs : List X) → list_any (λ x. t x && b) xs ≡ (list_any t xs && b)
any_and t b [] = refl
any_and t b (x ∷ xs) = ap (λ rest. (t x && b) || rest) (any_and t b xs) ∙ spread (t x) b (list_any t xs)
  where
    spread : (c b rest : Bool) → ((c && b) || (rest && b)) ≡ ((c || rest) && b)
    spread true true rest = refl
    spread true false true = refl
    spread true false false = refl
    spread false b rest = refl

pub any_never : {X : Type 0} (xs : List X) → list_any (λ x. false) xs ≡ false
any_never [] = refl
any_never (x ∷ xs) = any_never xs

pub all_always : {X : Type 0} (xs : List X) → list_all (λ x. true) xs ≡ true
all_always [] = refl
all_always (x ∷ xs) = all_always xs

pub any_map : {X Y : Type 0} (t : Y → Bool) (f : X → Y) (xs : List X) → list_any t (map f xs) ≡ list_any (λ x. t (f x)) xs
any_map t f [] = refl
any_map t f (x ∷ xs) = ap (λ rest. t (f x) || rest) (any_map t f xs)

any_cons : {Y : Type 0} (t : Y → Bool) (o : Option Y) (ys : List Y) → list_any t (cons_option o ys) ≡ (on_some t o || list_any t ys)
any_cons t None ys = refl
any_cons t (Some y) ys = refl

pub any_picked : {X Y : Type 0} (t : Y → Bool) (h : X → Option Y) (xs : List X) → list_any t (filter_map h xs) ≡ list_any (λ x. on_some t (h x)) xs
any_picked t h [] = refl
any_picked t h (x ∷ xs) = any_cons t (h x) (filter_map h xs) ∙ ap (λ rest. on_some t (h x) || rest) (any_picked t h xs)

pub any_flat : {X Y : Type 0} (t : Y → Bool) (f : X → List Y) (xs : List X) → list_any t (flat_map f xs) ≡ list_any (λ x. list_any t (f x)) xs
any_flat t f [] = refl
any_flat t f (x ∷ xs) = list_any-append t (f x) (flat_map f xs) ∙ ap (λ rest. list_any t (f x) || rest) (any_flat t f xs)

pub picked_none : {X Y : Type 0} (h : X → Option Y) (xs : List X) → ((x : X) → Among x xs → h x ≡ None) → filter_map h xs ≡ []
picked_none h [] each = refl
picked_none h (x ∷ xs) each =
    ap (λ o. cons_option o (filter_map h xs)) (each x (first_among x xs)) ∙ picked_none h xs (λ y among. each y (later_among y x xs among))

-- FOLDS

pub fold_same : {A B : Type 0} (f g : B → A → B) (b : B) (xs : List A) → ((c : B) (x : A) → f c x ≡ g c x) → fold f b xs ≡ fold g b xs
fold_same f g b [] same = refl
fold_same f g b (x ∷ xs) same = ap (λ c. fold f c xs) (same b x) ∙ fold_same f g (g b x) xs same

pub fold_append : {A B : Type 0} (f : B → A → B) (b : B) (xs ys : List A) → fold f b (xs ++ ys) ≡ fold f (fold f b xs) ys
fold_append f b [] ys = refl
fold_append f b (x ∷ xs) ys = fold_append f (f b x) xs ys

-- a fold of folds is one over all
pub fold_flat : {A B C : Type 0} (f : B → A → B) (g : C → List A) (b : B) (xs : List C) → fold (λ c x. fold f c (g x)) b xs ≡ fold f b (flat_map g xs)
fold_flat f g b [] = refl
fold_flat f g b (x ∷ xs) = fold_flat f g (fold f b (g x)) xs ∙ sym (fold_append f b (g x) (flat_map g xs))
