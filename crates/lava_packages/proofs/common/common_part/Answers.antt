use Rattle.std.proofs.Common.{rules}
use Rattle.lava_packages.proofs.Refused_laws.{moved}
use Rattle.lava_packages.proofs.common.common_part.Goals as goal

pub returns-in-Err-At-clause-cause : goal.returns-in-Err-At-clause-cause
returns-in-Err-At-clause-cause c = moved c.in-Err-At.field-0 _ c.in-Err-At.place _ c.in-Err-At.what (search rules) (search rules) c.in-Err-At.field-0-is c.in-Err-At.ensures.cause
