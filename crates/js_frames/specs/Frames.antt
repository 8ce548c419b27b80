-- Scopes as lists of slots, and names that are looked up in them.
use Rattle.std.specs.Prelude.{◌≡◌, ℕ, suc, ◌+◌, Bool, List, [], ◌∷◌, ◌++◌, Option, Some, None, is_some, if◌then◌else◌}
use Rattle.std.specs.Option.{option_map}
use Rattle.js_text.specs.Texts.{same_units}
use Rattle.js_names.specs.declared.declared.DeclaredName.{DeclaredName}
use Rattle.js_frames.specs.declared.frame.Referent.{Referent}
use Rattle.js_frames.specs.declared.frame.Referent.TheVariants.{Variable, Constant}
use Rattle.js_frames.specs.declared.frame.SlotName.{SlotName}
use Rattle.js_frames.specs.declared.frame.FoundSlot.{FoundSlot}
use Rattle.js_frames.specs.declared.scopes.FoundReferent.{FoundReferent}

abbrev pub Frame : Type 0
Frame = List SlotName

-- the scopes round a place, the innermost first
abbrev pub Env : Type 0
Env = List Frame

abbrev pub referent_of : Bool → Referent
referent_of constant = if constant then Constant else Variable

abbrev pub declared_slot : DeclaredName → SlotName
declared_slot d = record { name = d.name; referent = referent_of d.constant }

abbrev pub found_at : ℕ → SlotName → FoundSlot
found_at at s = record { slot = at; referent = s.referent }

abbrev pub one_further : FoundSlot → FoundSlot
one_further f = record f { slot = suc f.slot }

-- the first slot of a name
-- ECMA-262 HasBinding
abbrev pub found_in : List ℕ → Frame → Option FoundSlot
found_in n [] = None
found_in n (s ∷ ss) = if same_units s.name n then Some (found_at 0 s) else option_map one_further (found_in n ss)

abbrev pub has_slot : List ℕ → Frame → Bool
has_slot n ss = is_some (found_in n ss)

-- one more declared name; one that stands already gets no slot
abbrev pub with_name : Frame → DeclaredName → Frame
with_name ss d = if has_slot d.name ss then ss else ss ++ declared_slot d ∷ []

abbrev pub with_names : Frame → List DeclaredName → Frame
with_names ss [] = ss
with_names ss (d ∷ ds) = with_names (with_name ss d) ds

-- an index finds each name where it stands first
pub record IsIndexed (index : List ℕ → Option FoundSlot) (ss : Frame) : Type 0 where
  pub indexed : (n : List ℕ) → index n ≡ found_in n ss

-- SCOPES

abbrev pub tail_of : {A : Type 0} → List A → List A
tail_of [] = []
tail_of (x ∷ xs) = xs

abbrev pub or_else : {A : Type 0} → Option A → Option A → Option A
or_else (Some f) other = Some f
or_else None other = other

abbrev pub bound_there : ℕ → FoundSlot → FoundReferent
bound_there hops f = record { hops = hops; slot = f.slot; referent = f.referent }

abbrev pub found_there : List ℕ → ℕ → Frame → Option FoundReferent
found_there n hops f = option_map (bound_there hops) (found_in n f)

abbrev pub found_after : List ℕ → ℕ → Env → Option FoundReferent
found_after n hops [] = None
found_after n hops (f ∷ fs) = or_else (found_there n hops f) (found_after n (hops + 1) fs)

-- a name goes to the innermost scope that declares it
-- ECMA-262 ResolveBinding
abbrev pub find : List ℕ → Env → Option FoundReferent
find n fs = found_after n 0 fs
