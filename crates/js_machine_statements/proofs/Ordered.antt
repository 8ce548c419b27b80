-- Forms in their order.
use Rattle.std.proofs.Common.{◌≡◌, ℕ, suc, ◌+◌, ◌-◌, ◌≤◌, List, [], ◌∷◌, length, get_or, map, refl, sym, ap, ◌∙◌, subst, arith, Result, IfOk}
use Rattle.js_text.specs.declared.value.Value.TheVariants as value
use Rattle.js_code.specs.Decoded.{term_at}
use Rattle.js_code.specs.Tables.{part_of}
use Rattle.js_machine.specs.js_run.Acts.{Become, Evaluate, give, with_value}
use Rattle.js_machine.specs.js_run.Control.{in_order}
use Rattle.js_machine.specs.Steps.{LeadsTo, Waits}
use Rattle.js_machine.specs.Views.{View, party_of}
use Rattle.js_machine.specs.declared.frame.Frame.TheVariants as frame
use Rattle.js_machine.specs.declared.frame.Mode.{Mode}
use Rattle.js_machine.proofs.Listed.{part_first, part_within}

abbrev Ordered : List ℕ → View → View → Mode → Type 0
Ordered ns old new m = LeadsTo (λ a. in_order (map (term_at old.code) ns) (party_of a old)) old new m

none_by : {E : Type 0} (r : Result Mode E) (ns : List ℕ) (old new : View) → 0 ≡ length ns → IfOk r (LeadsTo (λ a. give value.Undefined (party_of a old)) old new) → IfOk r (Ordered ns old new)
none_by r [] old new e h = h
none_by r (n ∷ ns) old new e h = cc

one_by : {E : Type 0} (r : Result Mode E) (n : ℕ) (ns : List ℕ) (old new : View) → 1 ≡ length (n ∷ ns) → IfOk r (LeadsTo (λ a. Become (term_at old.code n) (party_of a old)) old new) → IfOk r (Ordered (n ∷ ns) old new)
one_by r n [] old new e h = h
one_by r n (k ∷ ns) old new e h = cc

more_by : {E : Type 0} (r : Result Mode E) (n : ℕ) (ns : List ℕ) (old new : View) → 2 ≤ length (n ∷ ns)
    → IfOk r (LeadsTo (λ a. Evaluate (term_at old.code n) (party_of a old) (with_value (λ v p. in_order (map (term_at old.code) ns) p))) old new) → IfOk r (Ordered (n ∷ ns) old new)
more_by r n [] old new l h = absurd (omega (arith, l))
more_by r n (k ∷ ns) old new l h = h

pub none_left : {E : Type 0} (r : Result Mode E) (n s c : ℕ) (old new : View) → n ≡ length (part_of s c old.code.numbers) → n ≡ 0
    → IfOk r (LeadsTo (λ a. give value.Undefined (party_of a old)) old new) → IfOk r (Ordered (part_of s c old.code.numbers) old new)
none_left r n s c old new e z h = none_by r (part_of s c old.code.numbers) old new (sym z ∙ e) h

pub one_left : {E : Type 0} (r : Result Mode E) (n s c at : ℕ) (old new : View) → n ≡ length (part_of s c old.code.numbers) → n ≡ 1 → n ≤ c → at ≡ get_or old.code.numbers s 0
    → IfOk r (LeadsTo (λ a. Become (term_at old.code at) (party_of a old)) old new) → IfOk r (Ordered (part_of s c old.code.numbers) old new)
one_left r n s c at old new e z l g h =
    let ns = old.code.numbers in
    let first = part_first ns s c (suc s) (c - 1) (omega (arith, z, l)) refl (part_within ns s c (omega (arith, e, z))) in
    let one : 1 ≡ length (get_or ns s 0 ∷ part_of (suc s) (c - 1) ns) = sym z ∙ e ∙ ap (λ xs. length xs) first in
    subst (λ xs. IfOk r (Ordered xs old new)) (sym first) (one_by r (get_or ns s 0) (part_of (suc s) (c - 1) ns) old new one (subst (λ k. IfOk r (LeadsTo (λ a. Become (term_at old.code k) (party_of a old)) old new)) g h))

pub more_left : {E : Type 0} (r : Result Mode E) (n s c s' c' at : ℕ) (old new : View) → n ≡ length (part_of s c old.code.numbers) → 2 ≤ n → n ≤ c → s' ≡ s + 1 → c' ≡ c - 1 → at ≡ get_or old.code.numbers s 0
    → IfOk r (Waits (frame.Seq s' c') at old new) → IfOk r (Ordered (part_of s c old.code.numbers) old new)
more_left r n s c s' c' at old new e z l p q g h =
    let ns = old.code.numbers in
    let first = part_first ns s c s' c' (omega (arith, z, l, q)) (omega (arith, p)) (part_within ns s c (omega (arith, e, z))) in
    let two : 2 ≤ length (get_or ns s 0 ∷ part_of s' c' ns) = subst (λ k. 2 ≤ k) (e ∙ ap (λ xs. length xs) first) z in
    subst (λ xs. IfOk r (Ordered xs old new)) (sym first) (more_by r (get_or ns s 0) (part_of s' c' ns) old new two (subst (λ k. IfOk r (Waits (frame.Seq s' c') k old new)) g h))
