use Rattle.js_lower.proofs.entries.+lower_to.Given as goal

abbrev pub decreases-lower_to : goal.decreases-lower_to
decreases-lower_to l = l.depth
