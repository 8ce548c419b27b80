-- Choices that are known.
use Rattle.std.proofs.Common.{◌≡◌, ℕ, Bool, true, false, drop, Option, sym, ◌∙◌, subst, Result, IfOk, if◌then◌else◌}
use Rattle.lava_base.specs.declared.ids.MadeSymbol.{MadeSymbol}
use Rattle.lava_base.specs.declared.ids.Ref.{Ref}
use Rattle.js_text.specs.Naming.{naming_of}
use Rattle.js_text.specs.declared.value.Key.TheVariants as key
use Rattle.js_text.specs.declared.value.Value.{Value}
use Rattle.js_code.specs.Decoded.{text_at}
use Rattle.js_store.specs.declared.slot.Lexical.{Lexical}
use Rattle.js_operation.specs.js_run.Acts.{Act, give}
use Rattle.js_operation.specs.js_run.Bodies.{run_template}
use Rattle.js_operation.specs.js_run.Parties.{first_body}
use Rattle.js_operation.specs.js_run.Properties.{get_global, missing_global, on_this}
use Rattle.js_machine.specs.Opened.{template_of}
use Rattle.js_machine.specs.Steps.{LeadsTo}
use Rattle.js_machine.specs.Views.{Around, View, args_on, party_of}
use Rattle.js_machine.specs.declared.frame.Mode.{Mode}

-- the `this` of the body that runs
pub this_given : {E : Type 0} (r : Result Mode E) (t u : Option (Value Ref MadeSymbol)) (old new : View) → t ≡ (first_body old.bodies).this → t ≡ u → IfOk r (LeadsTo (λ a. on_this (naming_of old.me) u (party_of a old) give) old new)
    → IfOk r (LeadsTo (λ a. on_this (naming_of old.me) (first_body old.bodies).this (party_of a old) give) old new)
this_given r t u old new e d h = subst (λ x. IfOk r (LeadsTo (λ a. on_this (naming_of old.me) x (party_of a old) give) old new)) (sym d ∙ e) h

-- the new target of a function that runs
pub target_given : {E : Type 0} (r : Result Mode E) (at outer n : ℕ) (f : Ref) (home : Option Ref) (l : Option (Lexical Ref MadeSymbol)) (this : Value Ref MadeSymbol) (t u : Option Ref) (old new : View) → t ≡ u
    → IfOk r (LeadsTo (λ a. run_template (naming_of old.me) a.shared f (template_of old at) outer home l this (args_on n old.values) u (party_of a old)) (record old { values = drop n old.values }) new)
    → IfOk r (LeadsTo (λ a. run_template (naming_of old.me) a.shared f (template_of old at) outer home l this (args_on n old.values) t (party_of a old)) (record old { values = drop n old.values }) new)
target_given r at outer n f home l this t u old new e h =
    subst (λ x. IfOk r (LeadsTo (λ a. run_template (naming_of old.me) a.shared f (template_of old at) outer home l this (args_on n old.values) x (party_of a old)) (record old { values = drop n old.values }) new)) (sym e) h

-- whether there is a free name
pub there_or_not : {E : Type 0} (r : Result Mode E) (b c : Bool) (n : ℕ) (soft : Bool) (old new : View) → b ≡ c
    → IfOk r (LeadsTo (λ a. if c then get_global (naming_of old.me) (key.Text (text_at old.code n)) (party_of a old) else missing_global (naming_of old.me) (text_at old.code n) soft (party_of a old)) old new)
    → IfOk r (LeadsTo (λ a. if b then get_global (naming_of old.me) (key.Text (text_at old.code n)) (party_of a old) else missing_global (naming_of old.me) (text_at old.code n) soft (party_of a old)) old new)
there_or_not r b c n soft old new e h =
    subst (λ x. IfOk r (LeadsTo (λ a. if x then get_global (naming_of old.me) (key.Text (text_at old.code n)) (party_of a old) else missing_global (naming_of old.me) (text_at old.code n) soft (party_of a old)) old new)) (sym e) h

-- a test that is known
pub when : {E : Type 0} (r : Result Mode E) (b : Bool) (x y : Around → Act Ref MadeSymbol) (old new : View) → b ≡ true → IfOk r (LeadsTo x old new) → IfOk r (LeadsTo (λ a. if b then x a else y a) old new)
when r true x y old new e h = h
when r false x y old new e h = cc
