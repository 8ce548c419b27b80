use Rattle.lava_base.specs.SameSymbols.{same_made_symbol_decides}
use Rattle.js_text.specs.SameKeys.{same_key_equiv}
use Rattle.js_store.proofs.Few_laws.{distinct_after}
use Rattle.js_store.proofs.named.NamedProperties.write.Goals as goal

pub invariant_of-self : goal.invariant_of-self
invariant_of-self c = distinct_after (same_key_equiv same_made_symbol_decides) c.args.key c.args.property _ _ c.write_first.result c.write_first.ensures.ok c.write_first.ensures.err c.self.invariant
