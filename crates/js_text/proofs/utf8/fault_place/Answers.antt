-- No character stands after the longest front that is UTF-8.
use Rattle.js_text.proofs.Begun.{no_char_after, fault_after}
use Rattle.js_text.proofs.utf8.fault_place.Goals as goal

pub begun_len-requires-clause-no_char : goal.begun_len-requires-clause-no_char
begun_len-requires-clause-no_char c = no_char_after c.args.bytes.now c.args.valid c.requires

pub returns : goal.returns
returns c = fault_after c.args.bytes.now c.args.valid c.requires c.begun_len.result c.begun_len.ensures
