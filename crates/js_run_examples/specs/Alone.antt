-- The run of an application that has one package alone, and what is seen of it.
use Rattle.std.specs.Prelude.{◌≡◌, ℕ, zero, suc, false, List, [], ◌∷◌, map, Option, Some, None, codes}
use Rattle.lava_base.specs.declared.ids.MadeSymbol.{MadeSymbol}
use Rattle.lava_base.specs.declared.ids.Ref.{Ref}
use Rattle.js_text.specs.Naming.{naming_of}
use Rattle.js_store.specs.Objects.{plain_marks}
use Rattle.js_term.specs.declared.term.Template.{Template}
use Rattle.js_run.specs.Functions.{plain_object}
use Rattle.js_run.specs.Globals.{intrinsic_property}
use Rattle.js_run.specs.Heap.{Control, Over_with, Runs, World, heap}
use Rattle.js_run.specs.Journal.{Application, Done, Ending}
use Rattle.js_run.specs.Outside.{OutsideCall, AnswersUndefined}
use Rattle.js_run.specs.Parties.{Party}
use Rattle.js_run.specs.Starts.{blank, host_party, host_ref, root_endowments}
use Rattle.js_run_laws.specs.Given.{alone_left, alone_starts}
use Rattle.js_run_examples.specs.declared.commons.TheConstants.{SYMBOL}
use Rattle.js_run_examples.specs.CommonPart.{part}

-- the party of a module, whose global has `Symbol` and the host's objects
abbrev pub start : Template → Party Ref MadeSymbol
start t = record blank {
  name = codes "$root$";
  main = codes "index.js";
  modules = record { path = codes "index.js"; template = t; begun = None } ∷ [];
  objects = plain_object (naming_of 1) (intrinsic_property (naming_of 1) SYMBOL (codes "Symbol") ∷ root_endowments) ∷ [];
}

abbrev pub own : Template → ℕ → Party Ref MadeSymbol
own t zero = host_party
own t (suc zero) = start t
own t (suc (suc p)) = blank

-- the application of this module alone, which is given the whole host
abbrev pub application : Template → Application
application t = record {
  shared = part;
  own = own t;
  count = 2;
  links = λ p l. 1;
  allows = λ p q. false;
  starts = alone_starts;
  left = alone_left;
  marks = (host_ref 0, plain_marks) ∷ (host_ref 5, plain_marks) ∷ (host_ref 7, plain_marks) ∷ [];
  outside = λ calls. AnswersUndefined;
}

-- what was printed, the last line first, how many steps the package took, and how the run ended, if it did
pub record Seen : Type 0 where
  pub printed : List OutsideCall
  pub steps : ℕ
  pub ending : Option Ending

abbrev pub ending_of : Control → Option Ending
ending_of (Over_with e) = Some e
ending_of (Runs p point) = None

abbrev pub seen : World → Seen
seen w = record { printed = (w.own 0).calls; steps = w.steps 1; ending = ending_of w.control }

-- the whole run: it wants no more steps and crossings than these
abbrev pub whole : Template → Seen
whole t = seen (heap (application t) 1000 20)

-- a call of `console.log`
abbrev pub line : List (List ℕ) → OutsideCall
line values = record { function = 1; arguments = values }

-- the module prints these lines, the last one first, and is done in so many steps of the package
abbrev pub Prints : Template → List (List (List ℕ)) → (steps : ℕ) → Type 0
Prints t lines n = whole t ≡ record { printed = map line lines; steps = n; ending = Some Done }

-- the module prints nothing, and its run ends so
abbrev pub Stops_with : Template → Ending → (steps : ℕ) → Type 0
Stops_with t e n = whole t ≡ record { printed = []; steps = n; ending = Some e }
