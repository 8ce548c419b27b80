use Rattle.std.proofs.Common.{rules, sym, ◌∙◌}
use Rattle.js_store.proofs.Dense_laws.{past_put, kept_push}
use Rattle.js_store.proofs.elements.Elements.write.Goals as goal

pub invariant_of-self-then-not-contains_key : goal.invariant_of-self-then-not-contains_key
invariant_of-self-then-not-contains_key c =
    kept_push c.args.index c.args.property _ _ _ c.push.result c.push.ensures.ok c.push.ensures.err
    c.ranges.index.fits (c.if-at-len-2.true ∙ (search rules)) (sym c.contains_key.ensures ∙ c.if-not-contains_key.true) c.self.invariant.1

pub invariant_of-self-2 : goal.invariant_of-self-2
invariant_of-self-2 c = (c.self.invariant.0, past_put _ c.args.index c.args.property _ _ c.insert.result c.insert.ensures.ok c.insert.ensures.err (search rules) c.self.invariant.1)
