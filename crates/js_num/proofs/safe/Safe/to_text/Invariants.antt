use Rattle.std.proofs.Common.{◌≡◌, take}
use Rattle.js_num.proofs.safe.Safe.to_text.Given as goal

abbrev pub invariant-loop-digit : goal.invariant-loop-digit
invariant-loop-digit l = l.text.items ≡ take l.digit-index l.digits
