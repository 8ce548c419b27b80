-- What the lexer's functions do to its state. `Sources` says what that means.
use Rattle.std.specs.Prelude.{◌≡◌, [], MatchResult, Result, Err, ◌⊎◌}
use Rattle.lava_base.specs.declared.place.Place.{Place}
use Rattle.js_fault.specs.declared.fault.SyntaxFault.{SyntaxFault}
use Rattle.js_lexer.specs.declared.element.NoElement.{NoElement}
use Rattle.js_lexer.specs.declared.lexer.Refusal.{Refusal}
use Rattle.js_lexer.specs.declared.lexer.Refusal.TheVariants as refusals
use Rattle.js_fault.specs.declared.fault.SyntaxFault.TheVariants as faults
use Rattle.js_fault.specs.declared.fault.SyntaxWhat.TheVariants as what
use Rattle.js_lexer.specs.declared.element.NoElement.TheVariants.{Stopped, LeftOut}
use Rattle.js_lexer.specs.Answers.{form_name}
use Rattle.js_lexer.specs.Nestings.{inside}
use Rattle.js_lexer.specs.Scanning.{element_of}
use Rattle.js_lexer.specs.declared.machine.Stop.TheVariants as stops
use Rattle.js_lexer.specs.Sources.{State, Takes, Run}
use Rattle.js_lexer.specs.Spots.{over_all}

abbrev pub NotTaken : State → Refusal → State → Type 0
NotTaken s (refusals.NoElement none) t = (t ≡ s) × (element_of (inside s.opens) s.rest ≡ Err none)
NotTaken s refusals.OutOfMemory t = Unit {0}

-- one element was taken, or nothing changed since none could be
abbrev pub AfterTake : State → Result (Unit {0}) Refusal → State → Type 0
AfterTake s answer t = MatchResult answer (λ done. Takes s t) (λ refusal. NotTaken s refusal t)

abbrev pub Stuck : State → Refusal → State → Type 0
Stuck s (refusals.NoElement none) t =
    Run s t × (element_of (inside t.opens) t.rest ≡ Err none) × ¬ (t.rest ≡ [])
Stuck s refusals.OutOfMemory t = Unit {0}

-- all elements were taken, or those up to one that could not be
abbrev pub AfterRun : State → Result (Unit {0}) Refusal → State → Type 0
AfterRun s answer t =
    MatchResult answer (λ done. Run s t × (t.rest ≡ [])) (λ refusal. Stuck s refusal t)

-- the fault that it is at a place that no element is taken
abbrev pub IsFaultOf : NoElement → Place → SyntaxFault → Type 0
IsFaultOf (Stopped stop) place f = f ≡ faults.At place what.BadToken
IsFaultOf (LeftOut form) place f =
    (f ≡ faults.At place (what.Unsupported (form_name form))) ⊎ (f ≡ faults.OutOfMemory)

-- the same where the source is no longer UTF-8 behind the text
abbrev pub IsBrokenFault : State → NoElement → SyntaxFault → Type 0
IsBrokenFault s (Stopped stops.Cut) f = f ≡ faults.At (over_all s.spot s.rest).place what.NotUtf8
IsBrokenFault s (Stopped stops.Bad) f = IsFaultOf (Stopped stops.Bad) s.spot.place f
IsBrokenFault s (LeftOut form) f = IsFaultOf (LeftOut form) s.spot.place f
