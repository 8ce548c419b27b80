use Rattle.std.proofs.Common.{sym}
use Rattle.ses_prelude.proofs.Paths_laws.{no_place, one_place}
use Rattle.ses_prelude.proofs.paths.place_of.Goals as goal

pub returns-in-None-clause-place : goal.returns-in-None-clause-place
returns-in-None-clause-place c = sym (no_place c.args.path.now c.common_id.result c.in-None.is c.common_id.ensures.each)

pub returns-in-Some-clause-place : goal.returns-in-Some-clause-place
returns-in-Some-clause-place c = one_place c.args.path.now c.in-Some.id c.in-Some.ensures.place c.in-Some.ensures.each
