-- Marks that a party sees, and those that the code reads.
use Rattle.std.proofs.Common.{◌≡◌, ℕ, Bool, true, false, ◌&&◌, List, Some, None, refl, sym, ap, if◌then◌else◌}
use Rattle.lava_base.specs.declared.ids.Ref.{Ref}
use Rattle.lava_base.specs.declared.marks.Marks.{Marks}
use Rattle.js_text.specs.Naming.{Origin, Own, Common, Foreign, naming_of, origin_of}
use Rattle.js_text.specs.declared.value.Value.TheVariants as value
use Rattle.js_run_laws.specs.js_operations.Looks.{marks_seen, marks_there}
use Rattle.js_ordinary.specs.Origins.{there}
use Rattle.js_store.specs.Frozen.{CommonObject}
use Rattle.js_store.specs.Objects.{plain_marks}
use Rattle.js_run_laws.specs.js_run.Asking.{see_marks, see_there}
use Rattle.js_run_laws.specs.js_run.Following.{see_value}
use Rattle.js_run_laws.specs.js_run.Parties.{Shared}
use Rattle.js_run_laws.specs.js_run.Runs as runs
use Rattle.js_run_laws.specs.js_run.Runs.{Env, answered}
use Rattle.js_natives.specs.Deeds.{MachineAct, MachineParty, having, knowing, sharing}
use Rattle.js_natives.specs.Seen.{is_there, value_is_there}
use Rattle.js_native_steps.specs.Steps.{MachineObjects, MachineValue}

pub left_true : (a b : Bool) → (a && b) ≡ true → a ≡ true
left_true true b h = refl
left_true false b h = cc

pub right_true : (a b : Bool) → (a && b) ≡ true → b ≡ true
right_true true b h = h
right_true false b h = cc

module _ (me : ℕ) (objects : MachineObjects) (common : List CommonObject) (known : List (Ref × Marks)) (shared : Shared) (env : Env Ref) (p : MachineParty) where
  -- what the code reads of a reference
  abbrev pub seen_of : Ref → Marks
  seen_of r = marks_seen (naming_of me) objects common known r

  by_origin : (o : Origin) (r : Ref) (go : Marks → MachineAct) → origin_of me r ≡ o → is_there objects common o ≡ true
      → answered (naming_of me) (knowing known env) (see_there (naming_of me) (sharing common shared) o r (having objects p) go)
      ≡ answered (naming_of me) (knowing known env) (go (marks_there (naming_of me) objects common known r (there objects common o)))
  by_origin (Own i) r go e h = ap (λ b. answered (naming_of me) (knowing known env) (go (marks_there (naming_of me) objects common known r (if b then Some (Own i) else None)))) (sym h)
  by_origin (Common c) r go e h = ap (λ b. answered (naming_of me) (knowing known env) (go (marks_there (naming_of me) objects common known r (if b then Some (Common c) else None)))) (sym h)
  by_origin Foreign r go e h = ap (λ o. answered (naming_of me) (knowing known env) (go (runs.marks_there (knowing known env).marks r o))) e

  -- a look at a reference
  pub seen : (r : Ref) (go : Marks → MachineAct) → is_there objects common (origin_of me r) ≡ true
      → answered (naming_of me) (knowing known env) (see_marks (naming_of me) (sharing common shared) r (having objects p) go) ≡ answered (naming_of me) (knowing known env) (go (seen_of r))
  seen r go h = by_origin (origin_of me r) r go refl h

  -- the marks of a value, where it is an object
  abbrev pub value_marks : MachineValue → Marks
  value_marks (value.Ref r) = seen_of r
  value_marks _ = plain_marks

  pub value_seen : (v : MachineValue) (go : Marks → MachineAct) → value_is_there (naming_of me) objects common v ≡ true
      → answered (naming_of me) (knowing known env) (see_value (naming_of me) (sharing common shared) v (having objects p) go) ≡ answered (naming_of me) (knowing known env) (go (value_marks v))
  value_seen (value.Ref r) go h = seen r go h
  value_seen v go h = refl
