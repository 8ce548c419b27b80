-- What follows of the reading of a prelude.
use Rattle.std.specs.Prelude.{◌≡◌, ℕ, ◌<◌, List, map, Some, slice_get}
use Rattle.js_store.specs.Objects.{object_at}
use Rattle.js_term.specs.declared.term.TemplateKind.{TemplateKind}
use Rattle.js_tree.specs.declared.tree.Stmt.{Stmt}
use Rattle.ses_lockdown.specs.Accessors.{HasTableProperties}
use Rattle.ses_lockdown.specs.Entries.{HasTableMarks}
use Rattle.ses_lockdown.specs.Intrinsics.{body_of}
use Rattle.ses_lockdown.specs.Lockdown.{Obj}
use Rattle.ses_lockdown.specs.Permits.{count}
use Rattle.ses_lockdown.specs.declared.intrinsics.Intrinsics.{Intrinsics}
use Rattle.ses_prelude.specs.Functions.{PreludeFunction, kind_at, functions_in, frame_of, template_of, intrinsics_of}
use Rattle.ses_prelude.specs.Preludes.{IsPrelude}

-- a text makes one list of intrinsics at most
abbrev pub One_prelude : Type 0
One_prelude = (source : List ℕ) (a b : Intrinsics) → IsPrelude source a → IsPrelude source b → a ≡ b

-- the common object of a place has the body of a function of the text that stands there
pub record HasBody (ds : List PreludeFunction) (objects : List Obj) (place : ℕ) : Type 0 where
  pub number : ℕ
  pub function : PreludeFunction
  pub declared : slice_get ds number ≡ Some function
  pub there : function.place ≡ place
  pub body : (object_at objects place).slot ≡ body_of number

-- the templates are those of the functions of the text, in its order, and each common object to which the text gives a body has one of them
-- ECMA-262 CreateIntrinsics
pub record HasBodies (ds : List PreludeFunction) (i : Intrinsics) : Type 0 where
  pub templates : i.templates ≡ map (template_of (frame_of ds)) ds
  pub bodies : (place : ℕ) (k : TemplateKind) → place < count → kind_at place ≡ Some k → HasBody ds i.objects place

abbrev pub Each_has_its_body : Type 0
Each_has_its_body = (l : List Stmt) (ds : List PreludeFunction) (i : Intrinsics) → functions_in l ≡ Some ds → intrinsics_of l ≡ Some i → HasBodies ds i

-- the common objects that a text makes have the marks of the table of places
-- SES intrinsics
abbrev pub Preludes_have_marks : Type 0
Preludes_have_marks = (source : List ℕ) (i : Intrinsics) → IsPrelude source i → HasTableMarks i.objects

-- so do they have the properties and prototypes of the tables
-- SES intrinsics
abbrev pub Preludes_have_properties : Type 0
Preludes_have_properties = (source : List ℕ) (i : Intrinsics) → IsPrelude source i → HasTableProperties i.objects
