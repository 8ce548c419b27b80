use Rattle.js_code.specs.Settled.{Extends}
use Rattle.js_machine.specs.Defaults.{AreDefaults}
use Rattle.js_machine.proofs.defaults.add_defaults.Given as goal

abbrev pub invariant-loop-class : goal.invariant-loop-class
invariant-loop-class l = AreDefaults l.code l.places.items × Extends l.fn.code l.code
