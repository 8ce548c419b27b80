-- The common part of a run, and why there is none.
use Rattle.std.specs.Prelude.{◌≡◌, map}
use Rattle.js_store.specs.Frozen.{as_read, common_ref}
use Rattle.ses_lockdown.specs.Laws.{StandsLocked}
use Rattle.ses_lockdown.specs.Lockdown.{locked}
use Rattle.ses_lockdown.specs.declared.intrinsics.Intrinsics.{Intrinsics}
use Rattle.ses_prelude.specs.Preludes.{IsPrelude, IsPreludeFault, prelude}
use Rattle.lava_packages.specs.declared.common.CommonPart.{CommonPart}
use Rattle.lava_packages.specs.declared.common.RunFault.{RunFault}
use Rattle.lava_packages.specs.declared.common.RunFault.TheVariants as fault

-- the objects of intrinsics as lockdown leaves them, which stand locked, and the templates of their functions
-- SES lockdown
pub record IsCommonOf (i : Intrinsics) (c : CommonPart) : Type 0 where
  pub objects : map (as_read common_ref) c.objects ≡ locked i.objects
  pub stands : StandsLocked i.objects (map (as_read common_ref) c.objects)
  pub templates : c.templates ≡ i.templates

-- the same of the intrinsics that the prelude makes
pub record IsCommonPart (c : CommonPart) : Type 0 where
  pub intrinsics : Intrinsics
  pub made : IsPrelude prelude intrinsics
  pub locked : IsCommonOf intrinsics c

-- the prelude is refused with its fault; want of memory may come anywhere
abbrev pub HasRunCause : RunFault → Type 0
HasRunCause (fault.Prelude place what) = IsPreludeFault prelude place what
HasRunCause fault.OutOfMemory = Unit {0}
