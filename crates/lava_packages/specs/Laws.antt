-- What holds of the common part of a run.
use Rattle.std.specs.Prelude.{map}
use Rattle.js_store.specs.Frozen.{as_read, common_ref}
use Rattle.ses_lockdown.specs.Accessors.{CallsRepairs}
use Rattle.ses_prelude.specs.Preludes.{AreValid}
use Rattle.lava_packages.specs.Commons.{IsCommonPart}
use Rattle.lava_packages.specs.declared.common.CommonPart.{CommonPart}

-- the accessors that all objects inherit are those of lockdown
-- SES enablePropertyOverrides
abbrev pub Common_part_calls_repairs : Type 0
Common_part_calls_repairs = (c : CommonPart) → IsCommonPart c → CallsRepairs (map (as_read common_ref) c.objects)

-- the templates of the common part are valid, with all templates inside
-- own: what the machine's steps rely on
abbrev pub Common_templates_are_valid : Type 0
Common_templates_are_valid = (c : CommonPart) → IsCommonPart c → AreValid c.templates
