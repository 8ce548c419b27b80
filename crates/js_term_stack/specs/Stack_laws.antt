-- How what stands on a stack of terms comes together.
use Rattle.std.specs.Prelude.{◌≡◌, List, [], ◌∷◌, ◌++◌, refl}
use Rattle.std.proofs.Common.{ap}
use Rattle.std.proofs.lemmas.List.{append_assoc, append-nil}
use Rattle.js_term.specs.declared.term.Part.{Part}
use Rattle.js_term.specs.declared.term.Term.{Term}
use Rattle.js_term_stack.specs.Stacks.{Stack, taken, taken_pending, on_one, extended, extended_parts}
use Rattle.js_term_stack.specs.declared.pending.Pending.{Pending}
use Rattle.js_term_stack.specs.declared.piece.Piece.TheVariants as piece

-- no more terms
pub extended_none : (s : Stack) → extended [] s ≡ s
extended_none [] = refl
extended_none (piece.OneTerm x ∷ r) = refl
extended_none (piece.MaybeTerm x ∷ r) = refl
extended_none (piece.TermList x ∷ r) = ap (λ l. piece.TermList l ∷ r) (append-nil x)
extended_none (piece.PartList x ∷ r) = refl
extended_none (piece.ArgumentList x ∷ r) = refl
extended_none (piece.OneTemplate x ∷ r) = refl
extended_none (piece.MaybeTemplate x ∷ r) = refl
extended_none (piece.OnePending x ∷ r) = refl

-- more terms, and then more
pub extended_twice : (ts us : List Term) (s : Stack) → extended us (extended ts s) ≡ extended (ts ++ us) s
extended_twice ts us [] = refl
extended_twice ts us (piece.OneTerm x ∷ r) = refl
extended_twice ts us (piece.MaybeTerm x ∷ r) = refl
extended_twice ts us (piece.TermList x ∷ r) = ap (λ l. piece.TermList l ∷ r) (append_assoc x ts us)
extended_twice ts us (piece.PartList x ∷ r) = refl
extended_twice ts us (piece.ArgumentList x ∷ r) = refl
extended_twice ts us (piece.OneTemplate x ∷ r) = refl
extended_twice ts us (piece.MaybeTemplate x ∷ r) = refl
extended_twice ts us (piece.OnePending x ∷ r) = refl

-- no more parts
pub extended_parts_none : (s : Stack) → extended_parts [] s ≡ s
extended_parts_none [] = refl
extended_parts_none (piece.OneTerm x ∷ r) = refl
extended_parts_none (piece.MaybeTerm x ∷ r) = refl
extended_parts_none (piece.TermList x ∷ r) = refl
extended_parts_none (piece.PartList x ∷ r) = ap (λ l. piece.PartList l ∷ r) (append-nil x)
extended_parts_none (piece.ArgumentList x ∷ r) = refl
extended_parts_none (piece.OneTemplate x ∷ r) = refl
extended_parts_none (piece.MaybeTemplate x ∷ r) = refl
extended_parts_none (piece.OnePending x ∷ r) = refl

-- more parts, and then more
pub extended_parts_twice : (ps qs : List Part) (s : Stack) → extended_parts qs (extended_parts ps s) ≡ extended_parts (ps ++ qs) s
extended_parts_twice ps qs [] = refl
extended_parts_twice ps qs (piece.OneTerm x ∷ r) = refl
extended_parts_twice ps qs (piece.MaybeTerm x ∷ r) = refl
extended_parts_twice ps qs (piece.TermList x ∷ r) = refl
extended_parts_twice ps qs (piece.PartList x ∷ r) = ap (λ l. piece.PartList l ∷ r) (append_assoc x ps qs)
extended_parts_twice ps qs (piece.ArgumentList x ∷ r) = refl
extended_parts_twice ps qs (piece.OneTemplate x ∷ r) = refl
extended_parts_twice ps qs (piece.MaybeTemplate x ∷ r) = refl
extended_parts_twice ps qs (piece.OnePending x ∷ r) = refl

-- what is made of the last term, and then of that
pub on_one_twice : (f g : Term → Term) (s : Stack) → on_one g (on_one f s) ≡ on_one (λ t. g (f t)) s
on_one_twice f g [] = refl
on_one_twice f g (piece.OneTerm x ∷ r) = refl
on_one_twice f g (piece.MaybeTerm x ∷ r) = refl
on_one_twice f g (piece.TermList x ∷ r) = refl
on_one_twice f g (piece.PartList x ∷ r) = refl
on_one_twice f g (piece.ArgumentList x ∷ r) = refl
on_one_twice f g (piece.OneTemplate x ∷ r) = refl
on_one_twice f g (piece.MaybeTemplate x ∷ r) = refl
on_one_twice f g (piece.OnePending x ∷ r) = refl

-- a chain becomes a term, which is taken
pub taken_chain : (f : Term → Stack → Stack) (g : Pending → Stack → Stack) (s : Stack) → taken f (taken_pending g s) ≡ taken_pending (λ c r. taken f (g c r)) s
taken_chain f g [] = refl
taken_chain f g (piece.OneTerm x ∷ r) = refl
taken_chain f g (piece.MaybeTerm x ∷ r) = refl
taken_chain f g (piece.TermList x ∷ r) = refl
taken_chain f g (piece.PartList x ∷ r) = refl
taken_chain f g (piece.ArgumentList x ∷ r) = refl
taken_chain f g (piece.OneTemplate x ∷ r) = refl
taken_chain f g (piece.MaybeTemplate x ∷ r) = refl
taken_chain f g (piece.OnePending x ∷ r) = refl

-- a chain becomes a chain, which is taken
pub chain_twice : (f g : Pending → Stack → Stack) (s : Stack) → taken_pending f (taken_pending g s) ≡ taken_pending (λ c r. taken_pending f (g c r)) s
chain_twice f g [] = refl
chain_twice f g (piece.OneTerm x ∷ r) = refl
chain_twice f g (piece.MaybeTerm x ∷ r) = refl
chain_twice f g (piece.TermList x ∷ r) = refl
chain_twice f g (piece.PartList x ∷ r) = refl
chain_twice f g (piece.ArgumentList x ∷ r) = refl
chain_twice f g (piece.OneTemplate x ∷ r) = refl
chain_twice f g (piece.MaybeTemplate x ∷ r) = refl
chain_twice f g (piece.OnePending x ∷ r) = refl
