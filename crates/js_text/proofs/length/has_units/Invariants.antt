use Rattle.std.proofs.Common.{◌≡◌, drop}
use Rattle.js_text.specs.Texts.{same_units}
use Rattle.js_text.proofs.length.has_units.Given as goal

-- what is left of both is the same where they are
abbrev pub invariant-loop-at : goal.invariant-loop-at
invariant-loop-at l = same_units (drop l.at l.text) (drop l.at l.units) ≡ same_units l.text l.units
