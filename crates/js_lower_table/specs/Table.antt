-- The term of each tree.
use Rattle.std.specs.Prelude.{ℕ, zero, suc, false, List, [], ◌∷◌}
use Rattle.js_tree.specs.declared.tree.Function.{Function}
use Rattle.js_tree.specs.declared.tree.Module.{Module}
use Rattle.js_tree.specs.declared.tree.SourceKind.{SourceKind}
use Rattle.js_tree.specs.declared.tree.SourceKind.TheVariants as source
use Rattle.js_tree.specs.declared.tree.Stmt.{Stmt}
use Rattle.js_term.specs.declared.term.Template.{Template}
use Rattle.js_term.specs.declared.term.TemplateKind.{TemplateKind}
use Rattle.js_term_stack.specs.Stacks.{Stack, extended}
use Rattle.js_term_stack.specs.declared.piece.Piece.TheVariants as piece
use Rattle.js_frames.specs.Frames.{Env, Frame}
use Rattle.js_lower_table.specs.declared.task.Task.{Task}
use Rattle.js_lower_table.specs.declared.task.Task.TheVariants as task
use Rattle.js_lower_table.specs.declared.task.TheConstants.{LOWERING_DEPTH}
use Rattle.js_lower_table.specs.Values.{Name, undefined}
use Rattle.js_lower_table.specs.Entries.{Below, given, origin}
use Rattle.js_lower_table.specs.Expressions.{expr_row}
use Rattle.js_lower_table.specs.Patterns.{bind_row}
use Rattle.js_lower_table.specs.Statements.{stmt_row}
use Rattle.js_lower_table.specs.Templates.{module_template, template_row, text_template}

abbrev pub no_template : TemplateKind → Template
no_template k = record { kind = k; name = []; length = 0; params = 0; rest = false; slots = 0; undefined = []; body = undefined }

-- the terms of trees that are so many levels deep
abbrev pub low : ℕ → Below
low zero = record { expr = λ env name e. undefined; stmt = λ env labels s. []; bind = λ env assigned from p. undefined; template = λ env k name f. no_template k }
low (suc d) = record { expr = expr_row (low d); stmt = stmt_row (low d); bind = bind_row (low d); template = template_row (low d) }

-- what a tree leaves on a stack of terms: a statement more terms in the list that stands last, each other tree one term or template
abbrev pub put_on : Below → Env → Task → Stack → Stack
put_on b env (task.Expression name e) s = piece.OneTerm (b.expr env (given name) e.now) ∷ s
put_on b env (task.Statement labels t) s = extended (b.stmt env labels.now t.now) s
put_on b env (task.Binding assigned from p) s = piece.OneTerm (b.bind env assigned (origin from) p.now) ∷ s
put_on b env (task.Body k name f) s = piece.OneTemplate (b.template env k (given name) f.now) ∷ s

-- SOURCES

abbrev pub source_as : List Stmt → SourceKind → Template
source_as l source.Module = module_template (low LOWERING_DEPTH) l
source_as l source.EvaluatedText = text_template (low LOWERING_DEPTH) l

-- the template of a module or an evaluated text
unfoldable pub source_template_of : Module → Template
source_template_of m = source_as m.body m.kind

-- a function of the prelude, whose text declares the names of a frame
unfoldable pub built_template : Frame → TemplateKind → Name → Function → Template
built_template frame k name f = template_row (low LOWERING_DEPTH) (frame ∷ []) k name f
