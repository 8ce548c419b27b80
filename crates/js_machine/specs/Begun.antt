-- How a machine stands before anything comes to it.
use Rattle.std.specs.Prelude.{ℕ, List, [], ◌∷◌}
use Rattle.lava_base.specs.declared.ids.MadeSymbol.{MadeSymbol}
use Rattle.lava_base.specs.declared.ids.PartyId.{PartyId}
use Rattle.lava_base.specs.declared.ids.Ref.{Ref}
use Rattle.js_code.specs.Tables.{Tables}
use Rattle.js_operation.specs.js_run.Outside.{OutsideCall}
use Rattle.js_operation.specs.js_run.Parties as parties
use Rattle.js_state.specs.Scopes.{Scope, no_scope}
use Rattle.js_store.specs.Objects.{Object, Owned}
use Rattle.js_store.specs.Frozen.{CommonObject}
use Rattle.lava_base.specs.declared.marks.Marks.{Marks}
use Rattle.js_machine.specs.Packages.{Package}
use Rattle.js_machine.specs.Views.{View, Values, Waits}
use Rattle.js_machine.specs.declared.asked.Answer.{Answer}
use Rattle.js_machine.specs.declared.asked.Asked.{Asked}
use Rattle.js_machine.specs.declared.asked.Imported.{Imported}
use Rattle.js_machine.specs.declared.frame.Frame.{Frame}

-- a party has its outermost scope
abbrev pub outermost : List (Scope Ref MadeSymbol)
outermost = no_scope ∷ []

-- the objects of a store, whatever keeps them
abbrev pub owned : PartyId → List (Object Ref MadeSymbol) → Owned
owned party objects = record { party = party; objects = objects }

-- a machine that has done nothing yet
abbrev pub as_new : Tables → Owned → Package → (allowed : List (List ℕ)) → List CommonObject → (common_templates : List ℕ) → List (Ref × Marks) → Asked → Answer → Imported → View
as_new c s own_package allowed common ts known asked answer imported = record {
  me = s.party.0;
  code = c;
  frames = [];
  values = [];
  objects = s.objects;
  templates = [];
  scopes = outermost;
  bodies = [];
  depth = 0;
  waits = [];
  asked = asked;
  answer = answer;
  common = common;
  known = known;
  common_templates = ts;
  own_package = own_package;
  allowed = allowed;
  imported = imported;
  calls = [];
}

-- what is a party's own in a machine, and no other party's
pub record Own : Type 0 where
  pub me : ℕ
  pub objects : List (Object Ref MadeSymbol)
  pub templates : List ℕ
  pub scopes : List (Scope Ref MadeSymbol)
  pub bodies : List (parties.Body Ref MadeSymbol)
  pub depth : ℕ
  pub own_package : Package
  pub allowed : List (List ℕ)
  pub calls : List OutsideCall

abbrev pub new_own : Owned → Package → (allowed : List (List ℕ)) → Own
new_own s own_package allowed = record { me = s.party.0; objects = s.objects; templates = []; scopes = outermost; bodies = []; depth = 0; own_package = own_package; allowed = allowed; calls = [] }

abbrev pub own_of : View → Own
own_of w = record { me = w.me; objects = w.objects; templates = w.templates; scopes = w.scopes; bodies = w.bodies; depth = w.depth; own_package = w.own_package; allowed = w.allowed; calls = w.calls }

-- the machine runs the party that has these things
abbrev pub with_own : Own → View → View
with_own o w = record w { me = o.me; objects = o.objects; templates = o.templates; scopes = o.scopes; bodies = o.bodies; depth = o.depth; own_package = o.own_package; allowed = o.allowed; calls = o.calls }

-- what is left of a body that waits
pub record Left : Type 0 where
  pub frames : List Frame
  pub values : Values
  pub waits : Waits

abbrev pub left_of : View → Left
left_of w = record { frames = w.frames; values = w.values; waits = w.waits }

-- the machine goes on with a body
abbrev pub with_left : Left → View → View
with_left l w = record w { frames = l.frames; values = l.values; waits = l.waits }

abbrev pub nothing_left : Left
nothing_left = record { frames = []; values = []; waits = [] }
