-- Bodies of constructors.
use Rattle.std.proofs.Common.{◌≡◌, ℕ, length, drop, Option, Some, subst, Result, IfOk}
use Rattle.lava_base.specs.declared.ids.MadeSymbol.{MadeSymbol}
use Rattle.lava_base.specs.declared.ids.Ref.{Ref}
use Rattle.js_text.specs.Naming.{naming_of}
use Rattle.js_text.specs.declared.value.Value.{Value}
use Rattle.js_term.specs.declared.term.Template.{out-Template}
use Rattle.js_term.specs.declared.term.TemplateKind.{TemplateKind}
use Rattle.js_machine.specs.js_run.Bodies.{prepared}
use Rattle.js_machine.specs.Bodies.{running_of}
use Rattle.js_machine.specs.Opened.{runs, template_of}
use Rattle.js_machine.specs.Steps.{LeadsTo, over, under}
use Rattle.js_machine.specs.Views.{View, args_on, party_of}
use Rattle.js_machine.specs.declared.frame.Frame.{Frame}
use Rattle.js_machine.specs.declared.frame.Mode.{Mode}

-- the body of a constructor runs, with so many arguments on the stack
abbrev pub Constructs : Frame → (at outer n : ℕ) → (this : Option (Value Ref MadeSymbol)) → (function target : Ref) → (home : Option Ref) → (old new : View) → Mode → TemplateKind → Type 0
Constructs f at outer n this g target home old new m k =
    let low = record old { values = drop n old.values } in
    LeadsTo (λ a. runs (out-Template (template_of old at)).body (running_of (length old.scopes) (Some (record { kind = k; back = 0; this = this; new_target = Some target; function = Some g; home = home })))
    (prepared (naming_of old.me) a.shared (template_of old at) outer (args_on n old.values) (party_of a old)) (over f low a)) (under f low) new m

pub constructs_by_row : {E : Type 0} (r : Result Mode E) (f : Frame) (at outer n : ℕ) (this : Option (Value Ref MadeSymbol)) (g target : Ref) (home : Option Ref) (old new : View) (k l : TemplateKind) → k ≡ l
    → IfOk r (λ m. Constructs f at outer n this g target home old new m k) → IfOk r (λ m. Constructs f at outer n this g target home old new m l)
constructs_by_row r f at outer n this g target home old new k l e h = subst (λ x. IfOk r (λ m. Constructs f at outer n this g target home old new m x)) e h
