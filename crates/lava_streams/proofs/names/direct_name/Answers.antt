use Rattle.std.proofs.Common.{sym}
use Rattle.lava_streams.proofs.NameLemmas.{name_in_below, name_in_other}
use Rattle.lava_streams.proofs.names.direct_name.Goals as goal

pub returns-in-Some : goal.returns-in-Some
returns-in-Some c =
    rw c.first_part.ensures (sym (name_in_below c.args.dir.now c.args.path.now c.in-Some.rest.now c.in-Some.ensures))

pub returns-in-None : goal.returns-in-None
returns-in-None c = sym (name_in_other c.args.dir.now c.args.path.now c.in-None.ensures)
