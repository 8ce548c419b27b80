-- What `sortTexts` does is what follows its decision.
use Rattle.std.proofs.Common.{◌≡◌, ℕ, Bool, true, false, List, [], ◌∷◌, map, Option, Some, None, refl, sym, ap, ◌∙◌, if◌then◌else◌, Result, Ok, Err, IfOk}
use Rattle.lava_base.specs.declared.ids.Ref.{Ref}
use Rattle.lava_base.specs.declared.marks.Marks.{Marks}
use Rattle.js_text.specs.Naming.{naming_of}
use Rattle.js_text.specs.declared.native.Native.{Native}
use Rattle.js_text.specs.declared.native.Native.TheVariants as native
use Rattle.js_desc.specs.declared.decision.Decision.TheVariants as decision
use Rattle.js_desc.specs.declared.fault.FaultText.TheVariants as fault
use Rattle.js_native.specs.TextNatives.{are_texts, text_of_value}
use Rattle.js_run_laws.specs.js_operations.Lists.{list_items}
use Rattle.js_store.specs.Frozen.{CommonObject}
use Rattle.js_run_laws.specs.js_run.Faults.{faults}
use Rattle.js_run_laws.specs.js_run.NativeTurns.{follows_native_with}
use Rattle.js_run_laws.specs.js_run.Natives.{gives_places, native_acts, sorts_items}
use Rattle.js_run_laws.specs.js_run.Parties.{Shared}
use Rattle.js_run_laws.specs.js_run.Runs.{answered}
use Rattle.js_run_laws.specs.js_run.Sorting.{sorted_places}
use Rattle.js_natives.specs.Deeds.{Does, MachineNaming, MachineParty, acts_with, having, knowing, sharing}
use Rattle.js_natives.specs.Items.{calls_items, item_step, places_made, reads_items, sorted_items}
use Rattle.js_native_steps.specs.Steps.{MachineObjects, MachineValue, NativeStep, waits_as}
use Rattle.js_natives.proofs.Step_laws.{Says}

module _ (names : MachineNaming) (s : Shared) (objects : MachineObjects) (p : MachineParty) where
  abbrev q : MachineParty
  q = having objects p

  sorts_so : (o : Option (List MachineValue)) → sorts_items names s o q ≡ follows_native_with names native.SortTexts waits_as (sorted_items names objects o) q
  sorts_so None = refl
  sorts_so (Some vs) = by (are_texts vs)
    where
      by : (b : Bool) → (if b then gives_places names s (sorted_places (map text_of_value vs)) q else faults names fault.CannotConvert q) ≡ follows_native_with names native.SortTexts waits_as (if b then places_made names objects (sorted_places (map text_of_value vs)) else (decision.Fault fault.CannotConvert, objects)) q
      by true = refl
      by false = refl

module _ (names : MachineNaming) (shared : Shared) (objects : MachineObjects) (common : List CommonObject) (p : MachineParty) where
  item_law : (which : Native) (vs : List MachineValue) → reads_items which ≡ true → calls_items which ≡ false
      → native_acts names (sharing common shared) which vs (having objects p) ≡ follows_native_with names which waits_as (item_step names objects common which vs) (having objects p)
  item_law native.FromUnits vs l h = cc
  item_law native.SortTexts [] l h = refl
  item_law native.SortTexts (list ∷ []) l h = sorts_so names (sharing common shared) objects p (list_items names objects common list)
  item_law native.SortTexts (v ∷ w ∷ vs) l h = refl
  item_law which vs l h = cc

pub items_do : {E : Type 0} (r : Result NativeStep E) (me : ℕ) (objects : MachineObjects) (common : List CommonObject) (known : List (Ref × Marks)) (which : Native) (vs : List MachineValue) (after : MachineObjects)
    → reads_items which ≡ true → IfOk r (λ d. calls_items which ≡ false)
    → IfOk r (λ d. Says d after (item_step (naming_of me) objects common which vs))
    → IfOk r (λ d. Does me objects common known which (acts_with which vs) d after)
items_do (Ok d) me objects common known which vs after l h e =
    record {
      does = λ shared numbers finds env p.
          ap (λ a. answered (naming_of me) (knowing known env) a) (item_law (naming_of me) shared objects common p which vs l h ∙ sym (ap (λ x. follows_native_with (naming_of me) which waits_as x (having objects p)) e));
    }
items_do (Err x) me objects common known which vs after l h e = tt
