-- The constructors of classes that have none.
use Rattle.std.specs.Prelude.{◌≡◌, ℕ, ◌<◌, Bool, true, false, List, [], ◌∷◌, get_or, length, pos, None}
use Rattle.js_text.specs.Naming.{naming_of}
use Rattle.js_text.specs.declared.native.Native.TheVariants as native
use Rattle.js_code.specs.Decoded.{template_at, term_at}
use Rattle.js_code.specs.Tables.{Tables}
use Rattle.js_operation.specs.js_run.Parties.{Shared, no_template}
use Rattle.js_operation.specs.js_run.Parts.{class_template}
use Rattle.js_operation.specs.js_run.declared.intrinsics.TheConstants.{ARRAY_PROTOTYPE}
use Rattle.js_term.specs.declared.term.Arguments.TheVariants as arguments
use Rattle.js_term.specs.declared.term.Literal.TheVariants as literal
use Rattle.js_term.specs.declared.term.Part.TheVariants as part
use Rattle.js_term.specs.declared.term.Template.{Template, out-Template}
use Rattle.js_term.specs.declared.term.TemplateKind.{TemplateKind}
use Rattle.js_term.specs.declared.term.TemplateKind.TheVariants as kind
use Rattle.js_term.specs.declared.term.Term.{Term}
use Rattle.js_term.specs.declared.term.Term.TheVariants as term

abbrev pub is_derived : TemplateKind → Bool
is_derived kind.Derived = true
is_derived _ = false

-- a new array
abbrev pub array_term : Term
array_term = term.Native native.MakeArray (term.Lit (literal.Common (record { 0 = ARRAY_PROTOTYPE })) ∷ term.Lit (literal.Int (pos 0)) ∷ [])

-- an array of what the first slot has
abbrev pub items_term : Term
items_term = term.Define array_term (part.Spread (term.Local 0 0) ∷ [])

-- the parent constructs by the arguments
abbrev pub derived_body : Term
derived_body = term.Seq (term.SuperNew (arguments.Of items_term) ∷ [])

-- a template is the constructor of a class of this name that has none
-- ECMA-262 ClassDefinitionEvaluation, step 14
abbrev pub IsDefaultOf : (name : List ℕ) → (derived : Bool) → Template → Type 0
IsDefaultOf name derived t = (me : ℕ) (shared : Shared) → t ≡ class_template (naming_of me) shared name derived None

-- the template of a place is such a constructor, by its own name and kind
abbrev pub IsDefault : Tables → (at : ℕ) → Type 0
IsDefault c at = (at < length c.templates) × (let t = template_at c (term_at c) at in IsDefaultOf (out-Template t).name (is_derived (out-Template t).kind) t)

-- the templates of all these places are
pub record AreDefaults (c : Tables) (places : List ℕ) : Type 0 where
  pub each : (k : ℕ) → k < length places → IsDefault c (get_or places k 0)

-- the templates that a machine itself names are in its code: one that has nothing to do, and these
unfoldable pub KnowsTemplates : Tables → (empty : ℕ) → (places : List ℕ) → Type 0
KnowsTemplates c empty places = (template_at c (term_at c) empty ≡ no_template) × AreDefaults c places
