-- What one item more adds to what is picked.
use Rattle.std.proofs.Common.{◌≡◌, ℕ, ◌+◌, ◌<◌, List, [], ◌∷◌, ◌++◌, length, take, get_or, suc, Option, Some, None, refl, sym, ap, ◌∙◌}
use Rattle.std.proofs.lemmas.List.{take_more}
use Rattle.std.proofs.lemmas.List.Elements.{filter_map-append}
use Rattle.std.specs.List.{filter_map, cons_option}
use Rattle.std.specs.Option.{option_to_list}
use Rattle.policy_globals.specs.Hosts.{members_in}

alone : {Y : Type 0} (o : Option Y) → cons_option o [] ≡ option_to_list o
alone None = refl
alone (Some y) = refl

-- one item more
pub picked_at : {X Y : Type 0} (f : X → Option Y) (xs : List X) (i : ℕ) (d : X) (old new : List Y) → i < length xs → old ≡ filter_map f (take i xs) → new ≡ old ++ option_to_list (f (get_or xs i d)) → new ≡ filter_map f (take (i + 1) xs)
picked_at f xs i d old new lt before pushed =
    let x = get_or xs i d in
    pushed ∙ ap (λ ys. ys ++ option_to_list (f x)) before ∙ sym (ap (filter_map f) (take_more xs i d lt) ∙ filter_map-append f (take i xs) (x ∷ []) ∙ ap (λ ys. filter_map f (take i xs) ++ ys) (alone (f x)))

pub picked_more : {X Y : Type 0} (f : X → Option Y) (xs : List X) (i : ℕ) (x : X) (old new : List Y) → i < length xs → x ≡ get_or xs i x → old ≡ filter_map f (take i xs) → new ≡ old ++ option_to_list (f x) → new ≡ filter_map f (take (i + 1) xs)
picked_more f xs i x old new lt here before pushed = picked_at f xs i x old new lt before (pushed ∙ ap (λ y. old ++ option_to_list (f y)) here)

-- what is picked of a table's members
pub picked_members : {X Y : Type 0} (text : X → List ℕ) (f : List ℕ × ℕ → Option Y) (ms : List (X × ℕ)) → filter_map (λ m. f (text m.0, m.1)) ms ≡ filter_map f (members_in text ms)
picked_members text f [] = refl
picked_members text f (m ∷ ms) = ap (cons_option (f (text m.0, m.1))) (picked_members text f ms)

pub length_members : {X : Type 0} (text : X → List ℕ) (ms : List (X × ℕ)) → length (members_in text ms) ≡ length ms
length_members text [] = refl
length_members text (m ∷ ms) = ap suc (length_members text ms)
