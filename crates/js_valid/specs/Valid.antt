-- Valid templates: each rule looks at one term, part or template and at what stands round it, and holds of all that stand inside.
use Rattle.std.specs.Prelude.{◌≡◌, ℕ, Bool, true, ◌&&◌, ◌==◌, nat_le, nat_lt, List, [], ◌∷◌, length, slice_get, Option, Some, None, is_some, if◌then◌else◌}
use Rattle.js_text.specs.CommonPaths.{common_paths}
use Rattle.js_text.specs.Natives.{native_operands}
use Rattle.js_text.specs.declared.native.Native.{Native}
use Rattle.js_term.specs.Layers.{JumpLayer, TermLayer}
use Rattle.js_term.specs.declared.term.Arguments.TheOpen.{Jump-F, Term-F}
use Rattle.js_term.specs.declared.term.Jump.{out-Jump}
use Rattle.js_term.specs.declared.term.Literal.{Literal}
use Rattle.js_term.specs.declared.term.Literal.TheVariants as literal
use Rattle.js_term.specs.declared.term.Template.{Template, out-Template}
use Rattle.js_term.specs.declared.term.TemplateKind.{TemplateKind}
use Rattle.js_term.specs.declared.term.TemplateKind.TheVariants as kind
use Rattle.js_term.specs.declared.term.Term.{out-Term}
use Rattle.js_valid.specs.Surroundings.{Place, BreakTarget, ContinueTarget, FreshScope, SuperCall, SuperProperty, first_answer, is_slot}
use Rattle.js_valid.specs.Inner.{Inner, Item, OnePart, OneTemplate, OneTerm, inside, place_in, template}

-- WHAT SCOPES, NATIVES AND TEMPLATES HAVE TO BE

-- a common object is named by its place
abbrev pub literal_fits : Literal → Bool
literal_fits (literal.Common c) = is_some (slice_get common_paths c.0)
literal_fits _ = true

abbrev pub counts : Option ℕ → ℕ → Bool
counts None n = true
counts (Some m) n = n == m

-- a native has its operands
abbrev pub has_operands : Native → ℕ → Bool
has_operands n count = counts (native_operands n) count

-- a hop and a slot name a slot of a scope that is open there, a `Fresh` stands in a `Scope`
abbrev pub term_fits : Place → TermLayer → Bool
term_fits p (Term-F.Lit v) = literal_fits v
term_fits p (Term-F.Local h s) = is_slot p h s
term_fits p (Term-F.SetLocal h s constant t) = is_slot p h s
term_fits p (Term-F.Init h s t) = is_slot p h s
term_fits p (Term-F.Native n l) = has_operands n (length l)
term_fits p Term-F.Fresh = first_answer FreshScope p
term_fits p _ = true

abbrev pub rest_parameters : Bool → ℕ
rest_parameters rest = if rest then 1 else 0

-- a module has `exports`, `require` and `module`, an evaluated text `require`
abbrev pub least_slots : TemplateKind → ℕ
least_slots kind.Plain = 0
least_slots kind.Arrow = 0
least_slots kind.Method = 0
least_slots kind.Base = 0
least_slots kind.Derived = 0
least_slots kind.Built = 0
least_slots kind.Module = 3
least_slots kind.Text = 1

abbrev pub all_below : ℕ → List ℕ → Bool
all_below n [] = true
all_below n (s ∷ ss) = nat_lt s n && all_below n ss

-- parameters have slots, a rest parameter is one of them, and what starts as undefined are slots of the template's own
abbrev pub template_fits : Template → Bool
template_fits t =
    nat_le (out-Template t).params (out-Template t).slots
    && (nat_le (rest_parameters (out-Template t).rest) (out-Template t).params
    && (nat_le (least_slots (out-Template t).kind) (out-Template t).slots && all_below (out-Template t).slots (out-Template t).undefined))

abbrev pub fits : Place → Item → Bool
fits p (OneTerm t) = term_fits p (out-Term t)
fits p (OnePart q) = true
fits p (OneTemplate t) = template_fits t

-- WHERE JUMPS AND `super` STAND

-- a jump stands inside its target; that of a `Return` is the template
abbrev pub jump_targeted : Place → JumpLayer → Bool
jump_targeted p (Jump-F.Break l) = first_answer (BreakTarget l) p
jump_targeted p (Jump-F.Continue l) = first_answer (ContinueTarget l) p
jump_targeted p (Jump-F.Return v) = true

abbrev pub term_targeted : Place → TermLayer → Bool
term_targeted p (Term-F.SuperGet k) = first_answer SuperProperty p
term_targeted p (Term-F.CallSuper k a) = first_answer SuperProperty p
term_targeted p (Term-F.SuperNew a) = first_answer SuperCall p
term_targeted p (Term-F.Jump j) = jump_targeted p (out-Jump j)
term_targeted p _ = true

abbrev pub targeted : Place → Item → Bool
targeted p (OneTerm t) = term_targeted p (out-Term t)
targeted p (OnePart q) = true
targeted p (OneTemplate t) = true

-- VALID

-- a rule holds of some items at a place, and of all that stand inside them
pub data Everywhere (rule : Place → Item → Bool) : Place → List Inner → Type 0 where
  nowhere : (p : Place) → Everywhere rule p []
  here : (p : Place) (i : Inner) (is : List Inner) → rule (place_in p i) i.item ≡ true → Everywhere rule (place_in p i) (inside i.item) → Everywhere rule p is
      → Everywhere rule p (i ∷ is)

abbrev pub stands : Place → Item → Bool
stands p i = fits p i && targeted p i

-- own: what the machine's steps rely on
abbrev pub IsValid : Template → Type 0
IsValid t = Everywhere stands [] (template t ∷ [])

-- the rules on scopes, slots, natives, common objects and templates: all but those on jumps and `super`
abbrev pub Fits : Template → Type 0
Fits t = Everywhere fits [] (template t ∷ [])
