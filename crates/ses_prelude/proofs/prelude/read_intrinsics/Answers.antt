use Rattle.ses_prelude.proofs.Prelude_laws as laws
use Rattle.ses_prelude.proofs.prelude.read_intrinsics.Goals as goal
use Rattle.js_tree.specs.declared.tree.SourceKind.TheVariants.{Module as AsModule}

pub returns-in-Ok-clause-made : goal.returns-in-Ok-clause-made
returns-in-Ok-clause-made c = laws.good_made c.args.source.now c.in-Ok.tree c.in-Ok.ensures.program c.made_of.result c.made_of.ensures

pub returns-in-Ok-clause-only : goal.returns-in-Ok-clause-only
returns-in-Ok-clause-only c =
    laws.good_only c.args.source.now c.in-Ok.tree c.in-Ok.ensures.program (c.one_tree.ensures AsModule c.args.source.now) c.made_of.result c.made_of.ensures

pub returns-in-Ok-clause-cause : goal.returns-in-Ok-clause-cause
returns-in-Ok-clause-cause c = laws.good_cause c.args.source.now c.in-Ok.tree c.in-Ok.ensures.program c.made_of.result c.made_of.ensures

pub returns-in-Ok-clause-refused : goal.returns-in-Ok-clause-refused
returns-in-Ok-clause-refused c = λ p w.
    laws.good_refused c.args.source.now c.in-Ok.tree c.in-Ok.ensures.program (c.one_tree.ensures AsModule c.args.source.now) p w (c.in-Ok.ensures.refused p w) c.made_of.result c.made_of.ensures

pub returns-in-Err-clause-only : goal.returns-in-Err-clause-only
returns-in-Err-clause-only c = laws.bad_only c.args.source.now c.in-Err.fault c.in-Err.ensures.only

pub returns-in-Err-clause-cause : goal.returns-in-Err-clause-cause
returns-in-Err-clause-cause c = laws.bad_cause c.args.source.now c.in-Err.fault c.in-Err.ensures.cause

pub returns-in-Err-clause-refused : goal.returns-in-Err-clause-refused
returns-in-Err-clause-refused c = λ p w.
    laws.bad_refused c.args.source.now c.in-Err.fault p w c.in-Err.ensures.only (c.in-Err.ensures.refused p w)
