-- What stands directly inside a term, a part or a template.
use Rattle.std.specs.Prelude.{List, [], ◌∷◌, ◌++◌, map, Option, Some, None}
use Rattle.js_term.specs.Layers.{ArgumentsLayer, JumpLayer, PartLayer, TermLayer}
use Rattle.js_term.specs.declared.term.Arguments.{Arguments, out-Arguments}
use Rattle.js_term.specs.declared.term.Arguments.TheOpen.{Arguments-F, Jump-F, Part-F, Term-F}
use Rattle.js_term.specs.declared.term.Jump.{Jump, out-Jump}
use Rattle.js_term.specs.declared.term.Part.{Part, out-Part}
use Rattle.js_term.specs.declared.term.Template.{Template, out-Template}
use Rattle.js_term.specs.declared.term.Term.{Term, out-Term}
use Rattle.js_valid.specs.Surroundings.{Place, Round, InHandler, InLabel, InLoop, InScope, InTemplate}

-- what is looked at by itself
pub data Item : Type 0 where
  OneTerm : Term → Item
  OnePart : Part → Item
  OneTemplate : Template → Item

-- an item inside another one, and what it stands in there that the other one does not
pub record Inner : Type 0 where
  pub round : Option Round
  pub item : Item

abbrev pub plain : Item → Inner
plain i = record { round = None; item = i }

abbrev pub within : Round → Item → Inner
within r i = record { round = Some r; item = i }

abbrev pub term : Term → Inner
term t = plain (OneTerm t)

abbrev pub part : Part → Inner
part p = plain (OnePart p)

abbrev pub template : Template → Inner
template t = plain (OneTemplate t)

abbrev pub maybe_term : Option Term → List Inner
maybe_term None = []
maybe_term (Some t) = term t ∷ []

abbrev pub maybe_template : Option Template → List Inner
maybe_template None = []
maybe_template (Some t) = template t ∷ []

abbrev pub term_within : Round → Term → Inner
term_within r t = within r (OneTerm t)

abbrev pub maybe_within : Round → Option Term → List Inner
maybe_within r None = []
maybe_within r (Some t) = term_within r t ∷ []

abbrev pub arguments_at : ArgumentsLayer → List Inner
arguments_at (Arguments-F.Listed l) = map term l
arguments_at (Arguments-F.Of t) = term t ∷ []

abbrev pub arguments : Arguments → List Inner
arguments a = arguments_at (out-Arguments a)

abbrev pub jump_at : JumpLayer → List Inner
jump_at (Jump-F.Break l) = []
jump_at (Jump-F.Continue l) = []
jump_at (Jump-F.Return v) = maybe_term v

abbrev pub jump : Jump → List Inner
jump j = jump_at (out-Jump j)

-- inside control, functions and classes
abbrev pub inside_control : TermLayer → List Inner
inside_control (Term-F.If t a b) = term t ∷ term a ∷ maybe_term b
inside_control (Term-F.Func t) = template t ∷ []
inside_control (Term-F.Define o l) = term o ∷ map part l
inside_control (Term-F.Class n p c l) = maybe_term p ++ (maybe_template c ++ map part l)
inside_control (Term-F.Seq l) = map term l
inside_control (Term-F.Scope n t) = term_within (InScope n) t ∷ []
inside_control (Term-F.Loop labels first t u b) =
    term_within (InLoop labels) t ∷ (maybe_within (InLoop labels) u ++ term_within (InLoop labels) b ∷ [])
inside_control (Term-F.Label l t) = term_within (InLabel l) t ∷ []
inside_control (Term-F.Jump j) = jump j
inside_control (Term-F.Throw t) = term t ∷ []
inside_control (Term-F.Try b h f) = term b ∷ (maybe_within InHandler h ++ maybe_term f)
inside_control _ = []

-- inside calls and operators
abbrev pub inside_call : TermLayer → List Inner
inside_call (Term-F.Call f a) = term f ∷ arguments a
inside_call (Term-F.CallOn o k a) = term o ∷ term k ∷ arguments a
inside_call (Term-F.CallSuper k a) = term k ∷ arguments a
inside_call (Term-F.New f a) = term f ∷ arguments a
inside_call (Term-F.SuperNew a) = arguments a
inside_call (Term-F.Unary o t) = term t ∷ []
inside_call (Term-F.Binary o a b) = term a ∷ term b ∷ []
inside_call (Term-F.Short o a b) = term a ∷ term b ∷ []
inside_call (Term-F.Native n l) = map term l
inside_call t = inside_control t

abbrev pub inside_term : TermLayer → List Inner
inside_term (Term-F.SetLocal h s constant t) = term t ∷ []
inside_term (Term-F.SetGlobal n t) = term t ∷ []
inside_term (Term-F.Init h s t) = term t ∷ []
inside_term (Term-F.Get o k) = term o ∷ term k ∷ []
inside_term (Term-F.Put o k v) = term o ∷ term k ∷ term v ∷ []
inside_term (Term-F.Delete o k) = term o ∷ term k ∷ []
inside_term (Term-F.SuperGet k) = term k ∷ []
inside_term t = inside_call t

abbrev pub inside_part : PartLayer → List Inner
inside_part (Part-F.Data k v) = term k ∷ term v ∷ []
inside_part (Part-F.Method s k t) = term k ∷ template t ∷ []
inside_part (Part-F.Getter s k t) = term k ∷ template t ∷ []
inside_part (Part-F.Setter s k t) = term k ∷ template t ∷ []
inside_part (Part-F.Spread t) = term t ∷ []
inside_part (Part-F.Item t) = term t ∷ []
inside_part Part-F.Hole = []

abbrev pub template_round : Template → Round
template_round t = InTemplate (out-Template t).kind (out-Template t).slots

abbrev pub inside : Item → List Inner
inside (OneTerm t) = inside_term (out-Term t)
inside (OnePart p) = inside_part (out-Part p)
inside (OneTemplate t) = term_within (template_round t) (out-Template t).body ∷ []

-- where an item stands that stands in another one at a place
abbrev pub entered : Place → Option Round → Place
entered p None = p
entered p (Some r) = r ∷ p

abbrev pub place_in : Place → Inner → Place
place_in p i = entered p i.round
