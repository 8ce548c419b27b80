use Rattle.std.proofs.Common.{◌≡◌, drop}
use Rattle.js_code.specs.Decoded.{text_at}
use Rattle.js_machine.specs.js_run.Acts.{is_label}
use Rattle.js_machine_statements.proofs.Turned.{labels_at}
use Rattle.js_machine_statements.proofs.turns.is_label.Given as goal

abbrev pub invariant-loop-i : goal.invariant-loop-i
invariant-loop-i g l = is_label (text_at l.machine.code l.label) (labels_at l.machine.code l.start l.count) ≡ is_label (text_at l.machine.code l.label) (drop l.i (labels_at l.machine.code l.start l.count))
