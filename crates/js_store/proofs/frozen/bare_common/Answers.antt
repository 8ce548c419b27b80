use Rattle.std.proofs.Common.{◌++◌, [], ◌∷◌, ◌∙◌, ap, sym, replicate}
use Rattle.std.proofs.lemmas.List.{replicate_more}
use Rattle.js_text.specs.CommonPaths.{common_paths}
use Rattle.js_store.specs.Frozen.{bare, common_part}
use Rattle.js_store.proofs.Bare_laws.{within, at_end}
use Rattle.js_store.proofs.Common_laws.{bare_part}
use Rattle.js_store.proofs.frozen.bare_common.Goals as goal

pub loop-store-preserved : goal.loop-store-preserved
loop-store-preserved c = (c.in_ok-push_bare.ensures.ok ∙ ap (λ l. l ++ bare ∷ []) c.loop-store.invariant.0 ∙ replicate_more c.loop-store.at bare, within common_paths c.loop-store.at c.common_path.result c.common_path.ensures.path (sym c.is_some.ensures ∙ c.loop-store-test.true))

pub returns : goal.returns
returns c = c.freeze.ensures.part ∙ ap common_part c.loop-store.invariant.0 ∙ bare_part c.loop-store.at ∙ ap (λ n. replicate n bare) (at_end common_paths c.loop-store.at c.common_path.result c.common_path.ensures.path (sym c.is_some.ensures ∙ c.loop-store-test.false) c.loop-store.invariant.1)
