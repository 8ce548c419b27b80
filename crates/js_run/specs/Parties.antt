-- A party's own things, over any types of references and of made symbols.
use Rattle.std.specs.Prelude.{ℕ, suc, ◌-◌, Bool, List, [], ◌∷◌, ◌++◌, get_or, length, Option, Some, None, ℤ}
use Rattle.js_text.specs.declared.value.Value.{Value}
use Rattle.js_state.specs.Scopes as scopes
use Rattle.js_state.specs.Scopes.{Scope, outwards, scope_at}
use Rattle.js_store.specs.Frozen.{CommonObject}
use Rattle.js_store.specs.Objects.{Object}
use Rattle.js_term.specs.declared.term.Template.{Template, roll-Template}
use Rattle.js_term.specs.declared.term.TemplateKind.{TemplateKind}
use Rattle.js_term.specs.declared.term.TemplateKind.TheVariants as kind
use Rattle.js_term.specs.declared.term.Term.TheVariants as term
use Rattle.js_run.specs.Outside.{OutsideCall}

-- a body that is open: what it runs with. A derived constructor has no `this` before its `super` call
-- ECMA-262 Execution Contexts
-- ECMA-262 Function Environment Records
pub record Body (R S : Type 0) : Type 0 where
  pub kind : TemplateKind
  pub scope : ℕ
  pub this : Option (Value R S)
  pub new_target : Option R
  pub function : Option R
  pub home : Option R

-- what all parties share, and no party changes: the common objects, the templates of their functions, and how texts are read:
-- as numbers, for a part, and as programs
-- SES Intrinsics
pub record Shared : Type 0 where
  pub objects : List CommonObject
  pub templates : List Template
  pub number_of : List ℕ → Option ℤ
  pub find : List ℕ → List ℕ → ℕ → Option ℕ
  pub program : List ℕ → Option Template

-- a module of a package: its path, its template, and its module object once it has begun
-- ECMA-262 Source Text Module Records
pub record Loaded : Type 0 where
  pub path : List ℕ
  pub template : Template
  pub begun : Option ℕ

-- The global is the first object. The templates grow as function objects are made, and their numbers are the party's own;
-- those of the common part come before them. The body that runs stands first. The errors that the machine makes for the host are frozen, as all its objects are
pub record Party (R S : Type 0) : Type 0 where
  pub name : List ℕ
  pub main : List ℕ
  pub modules : List Loaded
  pub links : List (List ℕ)
  pub builtin : Option (Value R S)
  pub module_map : List (List ℕ × Value R S)
  pub meter : Option ℕ
  pub objects : List (Object R S)
  pub templates : List Template
  pub scopes : List (Scope R S)
  pub bodies : List (Body R S)
  pub depth : ℕ
  pub calls : List OutsideCall
  pub frozen_errors : Bool

-- BODIES

abbrev pub no_body : {R S : Type 0} → Body R S
no_body = record { kind = kind.Plain; scope = 0; this = None; new_target = None; function = None; home = None }

abbrev pub first_body : {R S : Type 0} → List (Body R S) → Body R S
first_body [] = no_body
first_body (b ∷ bs) = b

-- the body that runs
-- ECMA-262 running execution context
abbrev pub running : {R S : Type 0} → Party R S → Body R S
running p = first_body p.bodies

abbrev pub replaces_body : {R S : Type 0} → Body R S → List (Body R S) → List (Body R S)
replaces_body b [] = []
replaces_body b (old ∷ bs) = b ∷ bs

abbrev pub with_running : {R S : Type 0} → Party R S → Body R S → Party R S
with_running p b = record p { bodies = replaces_body b p.bodies }

-- SCOPES

-- the scope that is so many hops outwards from where the body stands
abbrev pub reached : {R S : Type 0} → Party R S → (hops : ℕ) → ℕ
reached p hops = outwards p.scopes hops (running p).scope

-- the party with a value in a slot
abbrev pub with_slot : {R S : Type 0} → Party R S → (scope slot : ℕ) → Value R S → Party R S
with_slot p s i v = record p { scopes = scopes.with_slot p.scopes s i v }

-- a new scope, whose number is that of the scopes before it
-- ECMA-262 NewDeclarativeEnvironment
abbrev pub opened : {R S : Type 0} → Party R S → (outer : ℕ) → List (Option (Value R S)) → Party R S
opened p outer slots = record p { scopes = p.scopes ++ record { outer = outer; slots = slots } ∷ [] }

-- the body that runs stands in another scope
abbrev pub standing_in : {R S : Type 0} → ℕ → Party R S → Party R S
standing_in s p = with_running p (record (running p) { scope = s })

-- the body that runs stands in a new scope inside the one where it stood
abbrev pub entered : {R S : Type 0} → List (Option (Value R S)) → Party R S → Party R S
entered slots p = standing_in (length p.scopes) (opened p (running p).scope slots)

-- a copy of the innermost scope takes its place
-- ECMA-262 CreatePerIterationEnvironment
abbrev pub refreshed : {R S : Type 0} → Party R S → Party R S
refreshed p = let s = scope_at p.scopes (running p).scope in standing_in (length p.scopes) (opened p s.outer s.slots)

-- OBJECTS AND TEMPLATES

-- a new object, whose number is that of the objects before it
abbrev pub made : {R S : Type 0} → Party R S → Object R S → Party R S
made p o = record p { objects = p.objects ++ o ∷ [] }

abbrev pub with_template : {R S : Type 0} → Party R S → Template → Party R S
with_template p t = record p { templates = p.templates ++ t ∷ [] }

-- a template that is nowhere has nothing to do
abbrev pub no_template : Template
no_template = roll-Template (record { kind = kind.Plain; name = []; length = 0; params = 0; rest = Bool.false; slots = 0; undefined = []; body = term.Seq [] })

-- the number of the next template of a party
abbrev pub next_template : {R S : Type 0} → Shared → Party R S → ℕ
next_template shared p = length (shared.templates ++ p.templates)

-- the templates of the common part, and then those of the party
abbrev pub template_at : {R S : Type 0} → Shared → Party R S → ℕ → Template
template_at shared p n = get_or (shared.templates ++ p.templates) n no_template

-- DEPTH

abbrev pub deeper : {R S : Type 0} → Party R S → Party R S
deeper p = record p { depth = suc p.depth }

abbrev pub shallower : {R S : Type 0} → Party R S → Party R S
shallower p = record p { depth = p.depth - 1 }
