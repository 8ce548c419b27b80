-- No package has a name yet.
use Rattle.std.proofs.Common.{◌≡◌, ℕ, ◌+◌, List, [], ◌∷◌, ◌++◌, replicate, ap, ◌∙◌}
use Rattle.std.proofs.lemmas.List.{replicate-append-replicate}

pub one_more : (first : List ℕ) (k n : ℕ) (items more : List (List ℕ)) → k + 1 ≡ n → items ≡ first ∷ replicate k [] → more ≡ items ++ [] ∷ [] → more ≡ first ∷ replicate n []
one_more first k n items more count is put =
    put ∙ ap (λ (l : List (List ℕ)). l ++ [] ∷ []) is ∙ ap (λ (l : List (List ℕ)). first ∷ l) (replicate-append-replicate k 1 [] ∙ ap (λ (m : ℕ). replicate m []) count)
