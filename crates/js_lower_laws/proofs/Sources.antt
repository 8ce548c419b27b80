-- The templates of all sources fit.
use Rattle.std.proofs.Common.{◌≡◌, ℕ, zero, suc, false, List, [], ◌∷◌, refl, arith}
use Rattle.js_tree.specs.declared.tree.Module.{Module}
use Rattle.js_tree.specs.declared.tree.SourceKind.{SourceKind}
use Rattle.js_tree.specs.declared.tree.SourceKind.TheVariants as source
use Rattle.js_tree.specs.declared.tree.Stmt.{Stmt}
use Rattle.js_term.specs.declared.term.TemplateKind.{TemplateKind}
use Rattle.js_names.specs.Lists.{flat}
use Rattle.js_walk.specs.Parts as walk
use Rattle.js_walk.specs.Parts.{ModulePart}
use Rattle.js_lower_table.specs.Table.{low, no_template, source_as, source_template_of}
use Rattle.js_lower_table.specs.Values.{undefined}
use Rattle.js_lower_table.specs.declared.task.TheConstants.{LOWERING_DEPTH}
use Rattle.js_valid.specs.Surroundings.{Place, InTemplate}
use Rattle.js_valid.specs.Valid.{IsValid, least_slots, nowhere}
use Rattle.js_early.specs.Contexts.{source_context}
use Rattle.js_lower_laws.specs.Sound.{AreSound, IsSound}
use Rattle.js_lower_laws.proofs.Forms.{FitTemplate}
use Rattle.js_lower_laws.proofs.Linked.{below}
use Rattle.js_lower_laws.proofs.Lowering.{Lowers}
use Rattle.js_lower_laws.proofs.Bindings.{fit_bind_row}
use Rattle.js_lower_laws.proofs.Bodies.{fit_module, fit_template, fit_template_row, fit_text_template}
use Rattle.js_lower_laws.proofs.Names.{fit_undefined}
use Rattle.js_lower_laws.proofs.Operators.{fit_expr_row}
use Rattle.js_lower_laws.proofs.Statements.{fit_stmt_row}

no_template_fits : (p : Place) (k : TemplateKind) → least_slots k ≡ 0 → FitTemplate p (no_template k)
no_template_fits p k small =
    fit_template p k [] 0 0 false 0 [] undefined (record { parameters = omega arith; of_rest = omega arith; least = omega (arith, small); own = refl })
    (fit_undefined (InTemplate k 0 ∷ p))

pub lowers : (d : ℕ) → Lowers (low d)
lowers zero = record {
  expr = λ env p name e at x. fit_undefined p;
  stmt = λ env p labels s at j x. nowhere p;
  bind = λ env p assigned from q t at y x. fit_undefined p;
  template = λ env p k name d f at small allows x. no_template_fits p k small;
}
lowers (suc d) = record {
  expr = fit_expr_row (low d) (lowers d);
  stmt = fit_stmt_row (low d) (lowers d);
  bind = fit_bind_row (low d) (lowers d);
  template = fit_template_row (low d) (lowers d);
}

source_by : (l : List Stmt) (k : SourceKind) → AreSound (source_context k) [] (flat walk.statement l) → IsValid (source_as l k)
source_by l source.Module x = fit_module (low LOWERING_DEPTH) (lowers LOWERING_DEPTH) source.Module l x
source_by l source.EvaluatedText x = fit_text_template (low LOWERING_DEPTH) (lowers LOWERING_DEPTH) source.EvaluatedText l x

pub source_valid : (m : Module) → IsSound m → IsValid (source_template_of m)
unfolding source_template_of
source_valid m x = source_by m.body m.kind (below (ModulePart m) x)
