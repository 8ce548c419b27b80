use Rattle.std.proofs.Common.{sym, ◌∙◌, arith}
use Rattle.js_scope.proofs.Lookups.{resolve_found, resolve_missing}
use Rattle.js_scope.proofs.lookup.resolve_name.Goals as goal

pub returns-in-Some : goal.returns-in-Some
returns-in-Some c =
    sym (c.loop-level.invariant.left
    ∙ resolve_found _ _ _ _ _ _ (omega (arith, c.loop-level-test.true)) c.loop-level.invariant.within c.index-scopes-level.is (sym c.find.ensures ∙ c.in-Some.is))

pub loop-level-preserved : goal.loop-level-preserved
loop-level-preserved c = record {
  within = omega arith;
  left = c.loop-level.invariant.left
      ∙ resolve_missing _ _ _ _ _ (omega (arith, c.loop-level-test.true)) c.loop-level.invariant.within c.index-scopes-level.is (sym c.find.ensures ∙ c.in_default.is);
}
