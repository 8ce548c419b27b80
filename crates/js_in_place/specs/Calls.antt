-- Where a run stands in a call of a function of the party.
use Rattle.std.specs.Prelude.{◌≡◌, ℕ, ◌<◌, true, List, [], drop, length, Option}
use Rattle.lava_base.specs.declared.ids.MadeSymbol.{MadeSymbol}
use Rattle.lava_base.specs.declared.ids.Ref.{Ref}
use Rattle.js_text.specs.Naming.{naming_of}
use Rattle.js_text.specs.declared.value.Value.TheVariants as value
use Rattle.js_code.specs.Decoded.{term_at, terms_of}
use Rattle.js_desc.specs.declared.decision.BodyId.{BodyId}
use Rattle.js_store.specs.Objects.{Object, object_at}
use Rattle.js_store.specs.declared.slot.Lexical.{Lexical}
use Rattle.js_store.specs.declared.slot.Slot.TheVariants as slot
use Rattle.js_direct.specs.Direct.{own_object}
use Rattle.js_machine.specs.Views.{Values, View, args_on, party_of}
use Rattle.js_machine.specs.js_run.Acts.{give, with_value}
use Rattle.js_machine.specs.js_run.Asking.{calls}
use Rattle.js_machine.specs.js_run.Control.{all_values}
use Rattle.js_in_place.specs.Places.{ComesTo, Place, at_deed}
use Rattle.js_in_place.specs.declared.calls.Gathered.{Gathered}
use Rattle.js_in_place.specs.declared.calls.Gathered.TheVariants as gathered

-- an object of the party can be called, and has this body, which a source says
pub record HasFunction (objects : List (Object Ref MadeSymbol)) (id : ℕ) (body : BodyId) : Type 0 where
  pub there : id < length objects
  pub callable : (object_at objects id).marks.callable ≡ true
  pub home : Option Ref
  pub lexical : Option (Lexical Ref MadeSymbol)
  pub keeps : (object_at objects id).slot ≡ slot.Closure body home lexical

-- an own object is called with these values
abbrev pub at_called : (id : ℕ) → Values → View → Place
at_called id vs w = at_deed (λ a. calls (naming_of w.me) a.shared (own_object w.me id) value.Undefined vs (party_of a w) (with_value give)) w

-- the other arguments of its call come after these values
abbrev pub at_arguments : (id : ℕ) → Values → (start count : ℕ) → View → Place
at_arguments id vs start count w =
    at_deed (λ a. all_values (terms_of w.code (term_at w.code) start count) vs (party_of a w) (λ us q. calls (naming_of w.me) a.shared (own_object w.me id) value.Undefined us q (with_value give))) w

-- so many arguments are on the stack of values, and an own object is called with them
pub record AreListed (start count n left rest : ℕ) (old new : View) : Type 0 where
  pub is : new ≡ record old { values = new.values }
  pub below : drop n new.values ≡ old.values
  pub goes : (id : ℕ) → ComesTo left old old (at_arguments id [] start count old) (at_called id (args_on n new.values) old) rest

-- by what came of the arguments
abbrev pub IsGathered : Gathered → (start count left : ℕ) → (old new : View) → Type 0
IsGathered (gathered.All n rest) start count left old new = AreListed start count n left rest old new
IsGathered gathered.Nothing start count left old new = new ≡ old
IsGathered gathered.Failed start count left old new = Unit
