-- What stands round a term in its template and round that template: scopes, labels and templates, the innermost first.
use Rattle.std.specs.Prelude.{ℕ, Bool, true, false, ◌||◌, nat_lt, get_or, List, [], ◌∷◌, map, reverse, Option, Some, None, if◌then◌else◌}
use Rattle.js_text.specs.Texts.{same_units}
use Rattle.js_term.specs.declared.term.TemplateKind.{TemplateKind}
use Rattle.js_term.specs.declared.term.TemplateKind.TheVariants as kind
use Rattle.js_valid.specs.declared.question.Question.{Question}
use Rattle.js_valid.specs.declared.question.Question.TheVariants as question
use Rattle.js_valid.specs.declared.surrounding.Surrounding.{Surrounding}
use Rattle.js_valid.specs.declared.surrounding.Surrounding.TheVariants as surrounding

pub data Round : Type 0 where
  -- a `Scope` of so many slots
  InScope : ℕ → Round
  -- the handler of a `Try`, whose scope has the slot of what was thrown
  InHandler : Round
  -- a template of a kind, with so many slots
  InTemplate : TemplateKind → ℕ → Round
  -- a `Loop` with its labels
  InLoop : List (List ℕ) → Round
  -- a `Label`
  InLabel : List ℕ → Round

abbrev pub round_of : Surrounding → Round
round_of (surrounding.Scope n) = InScope n
round_of surrounding.Handler = InHandler
round_of (surrounding.Body k n) = InTemplate k n
round_of (surrounding.Loop ls) = InLoop ls.now
round_of (surrounding.Label l) = InLabel l.now

abbrev pub Place : Type 0
Place = List Round

-- where a term stands; what stands innermost comes last in the code
abbrev pub place : List Surrounding → Place
place l = map round_of (reverse l)

-- SLOTS

abbrev pub scope_slots : Round → Option ℕ
scope_slots (InScope n) = Some n
scope_slots InHandler = Some 1
scope_slots (InTemplate k n) = Some n
scope_slots (InLoop ls) = None
scope_slots (InLabel l) = None

abbrev pub with_slots : Option ℕ → List ℕ → List ℕ
with_slots None l = l
with_slots (Some n) l = n ∷ l

-- how many slots each open scope has, the innermost first
abbrev pub open_scopes : Place → List ℕ
open_scopes [] = []
open_scopes (r ∷ p) = with_slots (scope_slots r) (open_scopes p)

-- a scope is open that is so many hops outwards, and has a slot
abbrev pub is_slot : Place → ℕ → ℕ → Bool
is_slot p hops slot = nat_lt slot (get_or (open_scopes p) hops 0)

-- QUESTIONS, which each of the surroundings answers or leaves to the next one outwards

abbrev pub has_text : List ℕ → List (List ℕ) → Bool
has_text n [] = false
has_text n (l ∷ ls) = same_units l n || has_text n ls

abbrev pub if_true : Bool → Option Bool
if_true b = if b then Some true else None

-- a `Break` of a label ends a loop or a term that has it, in its own template
abbrev pub break_at : List ℕ → Round → Option Bool
break_at l (InScope n) = None
break_at l InHandler = None
break_at l (InTemplate k n) = Some false
break_at l (InLoop ls) = if_true (has_text l ls)
break_at l (InLabel n) = if_true (same_units n l)

-- a `Continue` of a label goes on with a loop that has it, in its own template
abbrev pub continue_at : List ℕ → Round → Option Bool
continue_at l (InScope n) = None
continue_at l InHandler = None
continue_at l (InTemplate k n) = Some false
continue_at l (InLoop ls) = if_true (has_text l ls)
continue_at l (InLabel n) = None

-- properties of `super` stand in methods and constructors of classes, and in arrows inside these
abbrev pub property_in : TemplateKind → Option Bool
property_in kind.Plain = Some false
property_in kind.Arrow = None
property_in kind.Method = Some true
property_in kind.Base = Some true
property_in kind.Derived = Some true
property_in kind.Built = Some false
property_in kind.Module = Some false
property_in kind.Text = Some false

-- calls of `super` stand in constructors of classes with a parent, and in arrows inside these
abbrev pub call_in : TemplateKind → Option Bool
call_in kind.Plain = Some false
call_in kind.Arrow = None
call_in kind.Method = Some false
call_in kind.Base = Some false
call_in kind.Derived = Some true
call_in kind.Built = Some false
call_in kind.Module = Some false
call_in kind.Text = Some false

-- ECMA-262 HasDirectSuper
abbrev pub super_property_at : Round → Option Bool
super_property_at (InTemplate k n) = property_in k
super_property_at _ = None

-- ECMA-262 HasDirectSuper
abbrev pub super_call_at : Round → Option Bool
super_call_at (InTemplate k n) = call_in k
super_call_at _ = None

-- the innermost scope is that of a `Scope`
abbrev pub fresh_at : Round → Option Bool
fresh_at (InScope n) = Some true
fresh_at InHandler = Some false
fresh_at (InTemplate k n) = Some false
fresh_at (InLoop ls) = None
fresh_at (InLabel l) = None

pub data Asked : Type 0 where
  BreakTarget : List ℕ → Asked
  ContinueTarget : List ℕ → Asked
  SuperProperty : Asked
  SuperCall : Asked
  FreshScope : Asked

abbrev pub question_of : Question → Asked
question_of (question.BreakTarget l) = BreakTarget l.now
question_of (question.ContinueTarget l) = ContinueTarget l.now
question_of question.SuperProperty = SuperProperty
question_of question.SuperCall = SuperCall
question_of question.FreshScope = FreshScope

abbrev pub answer : Asked → Round → Option Bool
answer (BreakTarget l) r = break_at l r
answer (ContinueTarget l) r = continue_at l r
answer SuperProperty r = super_property_at r
answer SuperCall r = super_call_at r
answer FreshScope r = fresh_at r

abbrev pub answer_or : Option Bool → Bool → Bool
answer_or None further = further
answer_or (Some b) further = b

-- the first answer, from the innermost outwards
abbrev pub first_answer : Asked → Place → Bool
first_answer q [] = false
first_answer q (r ∷ p) = answer_or (answer q r) (first_answer q p)
