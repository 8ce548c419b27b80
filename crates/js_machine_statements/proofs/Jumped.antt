-- Jumps.
use Rattle.std.proofs.Common.{◌≡◌, ℕ, Some, None, refl, sym, subst, Result, IfOk}
use Rattle.js_text.specs.declared.value.Value.TheVariants as value
use Rattle.js_term.specs.Layers.{JumpLayer}
use Rattle.js_term.specs.declared.term.Arguments.TheOpen.{Jump-F}
use Rattle.js_term.specs.declared.term.Jump.{Jump, out-Jump}
use Rattle.js_term.specs.declared.term.Jump.TheVariants as jump_kind
use Rattle.js_term.specs.declared.term.Jump.TheVariants.{outs-Break, outs-Continue, outs-Return}
use Rattle.js_code.specs.Decoded.{term_at, text_at}
use Rattle.js_machine.specs.js_run.Acts.{Give}
use Rattle.js_machine.specs.js_run.Completions.{Returns}
use Rattle.js_machine.specs.js_run.Control.{jump, jump_at}
use Rattle.js_machine.specs.Steps.{LeadsTo, Waits}
use Rattle.js_machine.specs.Views.{View, party_of}
use Rattle.js_machine.specs.declared.frame.Frame.TheVariants as frame
use Rattle.js_machine.specs.declared.frame.Mode.{Mode}
use Rattle.js_machine.specs.declared.frame.Mode.TheVariants as mode

by_layer : {E : Type 0} (r : Result Mode E) (j : Jump) (k : JumpLayer) (old new : View) → out-Jump j ≡ k → IfOk r (LeadsTo (λ a. jump_at k (party_of a old)) old new) → IfOk r (LeadsTo (λ a. jump j (party_of a old)) old new)
by_layer r j k old new e h = subst (λ x. IfOk r (LeadsTo (λ a. jump_at x (party_of a old)) old new)) (sym e) h

pub breaks : (l : ℕ) (old : View) → LeadsTo (λ a. jump (jump_kind.Break (text_at old.code l)) (party_of a old)) old old (mode.Break l)
breaks l old = let done : LeadsTo (λ a. jump_at (Jump-F.Break (text_at old.code l)) (party_of a old)) old old (mode.Break l) = record { leads = λ a. refl; keeps = (refl, (refl, (refl, (refl, refl)))) } in
    subst (λ x. LeadsTo (λ a. jump_at x (party_of a old)) old old (mode.Break l)) (sym (outs-Break (text_at old.code l))) done

pub continues : (l : ℕ) (old : View) → LeadsTo (λ a. jump (jump_kind.Continue (text_at old.code l)) (party_of a old)) old old (mode.Continue l)
continues l old = let done : LeadsTo (λ a. jump_at (Jump-F.Continue (text_at old.code l)) (party_of a old)) old old (mode.Continue l) = record { leads = λ a. refl; keeps = (refl, (refl, (refl, (refl, refl)))) } in
    subst (λ x. LeadsTo (λ a. jump_at x (party_of a old)) old old (mode.Continue l)) (sym (outs-Continue (text_at old.code l))) done

pub returns_none : {E : Type 0} (r : Result Mode E) (old new : View) → IfOk r (LeadsTo (λ a. Give (Returns value.Undefined) (party_of a old)) old new) → IfOk r (LeadsTo (λ a. jump (jump_kind.Return None) (party_of a old)) old new)
returns_none r old new h = by_layer r (jump_kind.Return None) (Jump-F.Return None) old new (outs-Return None) h

pub returns_value : {E : Type 0} (r : Result Mode E) (at : ℕ) (old new : View) → IfOk r (Waits frame.Return at old new) → IfOk r (LeadsTo (λ a. jump (jump_kind.Return (Some (term_at old.code at))) (party_of a old)) old new)
returns_value r at old new h = by_layer r (jump_kind.Return (Some (term_at old.code at))) (Jump-F.Return (Some (term_at old.code at))) old new (outs-Return (Some (term_at old.code at))) h
