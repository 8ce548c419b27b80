-- The newest value stays where it is, and a frame that waits has it.
use Rattle.std.proofs.Common.{◌≡◌, ℕ, List, [], ◌∷◌, length, reverse, refl, sym, ap, ◌∙◌, arith, Result, IfOk}
use Rattle.std.proofs.lemmas.List.{length-reverse}
use Rattle.lava_base.specs.declared.ids.MadeSymbol.{MadeSymbol}
use Rattle.lava_base.specs.declared.ids.Ref.{Ref}
use Rattle.js_text.specs.declared.value.Value.{Value}
use Rattle.js_text.specs.declared.value.Value.TheVariants as value
use Rattle.js_machine.specs.Steps.{Waits, WaitsWith}
use Rattle.js_machine.specs.Views.{View, below, top}
use Rattle.js_machine.specs.declared.frame.Frame.{Frame}
use Rattle.js_machine.specs.declared.frame.Mode.{Mode}

no_values : {A : Type 0} (xs : List A) → length xs ≡ 0 → xs ≡ []
no_values [] e = refl
no_values (x ∷ xs) e = absurd (omega (arith, e))

over_no : {E : Type 0} (r : Result Mode E) (vs : List (Value Ref MadeSymbol)) (f : Frame) (at : ℕ) (old new : View) → vs ≡ [] → IfOk r (WaitsWith value.Undefined f at (record old { values = vs }) new)
    → IfOk r (WaitsWith (top vs) f at (record old { values = below vs }) new)
over_no r [] f at old new e h = h
over_no r (v ∷ vs) f at old new e h = cc

pub none_over : {E : Type 0} (r : Result Mode E) (vs : List (Value Ref MadeSymbol)) (f : Frame) (at : ℕ) (old new : View) → length vs ≡ 0 → IfOk r (WaitsWith value.Undefined f at (record old { values = reverse vs }) new)
    → IfOk r (WaitsWith (top (reverse vs)) f at (record old { values = below (reverse vs) }) new)
none_over r vs f at old new e h = over_no r (reverse vs) f at old new (no_values (reverse vs) (length-reverse vs ∙ e)) h

over_some : {E : Type 0} (r : Result Mode E) (vs : List (Value Ref MadeSymbol)) (f : Frame) (at : ℕ) (old new : View) → (vs ≡ [] → ⊥) → IfOk r (Waits f at (record old { values = vs }) new)
    → IfOk r (WaitsWith (top vs) f at (record old { values = below vs }) new)
over_some r [] f at old new n h = absurd (n refl)
over_some r (v ∷ vs) f at old new n h = h

pub some_over : {E : Type 0} (r : Result Mode E) (vs : List (Value Ref MadeSymbol)) (f : Frame) (at : ℕ) (old new : View) → (length vs ≡ 0 → ⊥) → IfOk r (Waits f at (record old { values = reverse vs }) new)
    → IfOk r (WaitsWith (top (reverse vs)) f at (record old { values = below (reverse vs) }) new)
some_over r vs f at old new n h = over_some r (reverse vs) f at old new (λ e. n (sym (length-reverse vs) ∙ ap length e)) h
