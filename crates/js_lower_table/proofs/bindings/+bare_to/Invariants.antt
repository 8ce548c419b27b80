use Rattle.js_lower_table.proofs.bindings.+bare_to.Given as goal

abbrev pub decreases-bare_to : goal.decreases-bare_to
decreases-bare_to c = c.depth
