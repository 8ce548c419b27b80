-- What the line of a crossing keeps to, whatever crosses: texts that are no longer than a text may be, safe integers, keys that are indices where they can be, and numbers of parties that a line can have.
use Rattle.std.specs.Prelude.{◌≡◌, ◌<◌, ◌≤◌, false, List, length, ⊤}
use Rattle.std.specs.List.{AllByRecursion}
use Rattle.lava_base.specs.declared.ids.MadeSymbol.{MadeSymbol}
use Rattle.lava_base.specs.declared.ids.Ref.{Ref}
use Rattle.lava_base.specs.declared.ids.Ref.TheVariants.{Common, Own}
use Rattle.lava_base.specs.declared.marks.Marks.{Marks}
use Rattle.js_text.specs.CommonPaths.{common_paths}
use Rattle.js_desc.specs.declared.crossing.CrossBody.{CrossBody}
use Rattle.js_desc.specs.declared.crossing.CrossBody.TheVariants as body
use Rattle.js_desc.specs.declared.crossing.Crossing.{Crossing}
use Rattle.lava_trace.specs.Courses.{is_make}
use Rattle.lava_trace.specs.declared.left.TheConstants.{MAX_PARTY}
use Rattle.lava_trace_laws.specs.Sound.{HasTarget, Sound_ask, Sound_reply}

-- an ask has a target where its method wants one, and what it says can be written; an answer too, of whatever kind it is
abbrev pub Ranged_body : CrossBody Ref MadeSymbol → Type 0
Ranged_body (body.Ask target x) = HasTarget target x × Sound_ask x
Ranged_body (body.Answer r) = Sound_reply r

-- a crossing in range, which makes no party
-- own: what a line of a run keeps to
pub record IsInRange (x : Crossing Ref MadeSymbol) : Type 0 where
  pub from : x.from.0 ≤ MAX_PARTY
  pub to : x.to.0 ≤ MAX_PARTY
  pub body : Ranged_body x.body
  pub makes_none : is_make x.body ≡ false

-- an object of the common part has a path there
abbrev pub Has_path : Ref → Type 0
Has_path (Common c) = c.0 < length common_paths
Has_path (Own p i) = ⊤

-- so has each reference whose marks are listed
abbrev pub HavePaths : List (Ref × Marks) → Type 0
HavePaths listed = AllByRecursion (λ (e : Ref × Marks). Has_path e.0) listed
