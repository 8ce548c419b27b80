-- The template of a source, by its kind.
use Rattle.std.proofs.Common.{◌≡◌, List, sym, ap, ◌∙◌, subst, Result, IfOk}
use Rattle.lava_base.specs.declared.memory.OutOfMemory.{OutOfMemory}
use Rattle.js_lower_table.specs.Table.{low, source_as, source_template_of}
use Rattle.js_lower_table.specs.Templates.{module_template, text_template}
use Rattle.js_lower_table.specs.declared.task.TheConstants.{LOWERING_DEPTH}
use Rattle.js_term.specs.declared.term.Template.{Template}
use Rattle.js_tree.specs.declared.tree.Module.{Module}
use Rattle.js_tree.specs.declared.tree.SourceKind.TheVariants as kinds
use Rattle.js_tree.specs.declared.tree.Stmt.{Stmt}

pub as_module : (m : Module) (l : List Stmt) (r : Result Template OutOfMemory) → l ≡ m.body → m.kind ≡ kinds.Module
    → IfOk r (λ made. made ≡ module_template (low LOWERING_DEPTH) l) → IfOk r (λ made. made ≡ source_template_of m)
unfolding source_template_of
as_module m l r list kind ok =
    subst (λ t. IfOk r (λ made. made ≡ t)) (ap (λ x. module_template (low LOWERING_DEPTH) x) list ∙ ap (λ k. source_as m.body k) (sym kind)) ok

pub as_text : (m : Module) (l : List Stmt) (r : Result Template OutOfMemory) → l ≡ m.body → m.kind ≡ kinds.EvaluatedText
    → IfOk r (λ made. made ≡ text_template (low LOWERING_DEPTH) l) → IfOk r (λ made. made ≡ source_template_of m)
unfolding source_template_of
as_text m l r list kind ok =
    subst (λ t. IfOk r (λ made. made ≡ t)) (ap (λ x. text_template (low LOWERING_DEPTH) x) list ∙ ap (λ k. source_as m.body k) (sym kind)) ok
