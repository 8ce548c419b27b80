-- The rows of statements of one term, in the parts in which the code goes over them.
use Rattle.std.specs.Prelude.{false, List, [], ◌∷◌, None}
use Rattle.std.specs.Option.{option_map}
use Rattle.js_tree.specs.Layers.{StmtLayer}
use Rattle.js_tree.specs.declared.tree.Argument.TheOpen.{Stmt-F}
use Rattle.js_tree.specs.declared.tree.Stmt.{Stmt, out-Stmt}
use Rattle.js_term.specs.declared.term.Jump.TheVariants as jump
use Rattle.js_term.specs.declared.term.Term.{Term}
use Rattle.js_term.specs.declared.term.Term.TheVariants as term
use Rattle.js_frames.specs.Frames.{Env}
use Rattle.js_lower_table.specs.Entries.{Below}
use Rattle.js_lower_table.specs.Values.{Name, undefined}
use Rattle.js_lower_table.specs.Expressions.{expr}
use Rattle.js_lower_table.specs.Statements as spec
use Rattle.js_lower_table.specs.Table as table

abbrev pub still_there : Term → Term
still_there body = spec.still_there (table.low 0) body

abbrev pub open_keys : Term
open_keys = spec.open_keys (table.low 0)

module _ (low : Below) where
  abbrev pub for_at : Env → List Name → StmtLayer → Term
  for_at env labels (Stmt-F.For place i t u s) = spec.for_term low env labels i t u s
  for_at env labels (Stmt-F.ForOf place t e s) = spec.for_of low env labels t e s
  for_at env labels (Stmt-F.ForIn place t e s) = spec.for_in low env labels t e s
  for_at env labels _ = undefined

  abbrev pub for_row : Env → List Name → Stmt → Term
  for_row env labels s = for_at env labels (out-Stmt s)

  abbrev pub loop_at : Env → List Name → StmtLayer → Term
  loop_at env labels (Stmt-F.While place t s) = spec.loop labels (expr low env t) None (spec.one low env s)
  loop_at env labels (Stmt-F.DoWhile place s t) = term.Loop ([] ∷ labels) false (expr low env t) None (spec.one low env s)
  loop_at env labels s = for_at env labels s

  abbrev pub loop_row : Env → List Name → Stmt → Term
  loop_row env labels s = loop_at env labels (out-Stmt s)

  abbrev pub jump_at : Env → List Name → StmtLayer → Term
  jump_at env labels (Stmt-F.Empty place) = term.Seq []
  jump_at env labels (Stmt-F.Debugger place) = term.Seq []
  jump_at env labels (Stmt-F.Continue place l) = term.Jump (jump.Continue (spec.label_of l))
  jump_at env labels (Stmt-F.Break place l) = term.Jump (jump.Break (spec.label_of l))
  jump_at env labels (Stmt-F.Return place e) = term.Jump (jump.Return (option_map (expr low env) e))
  jump_at env labels (Stmt-F.Throw place e) = term.Throw (expr low env e)
  jump_at env labels s = loop_at env labels s

  abbrev pub jump_row : Env → List Name → Stmt → Term
  jump_row env labels s = jump_at env labels (out-Stmt s)

  abbrev pub term_at : Env → List Name → StmtLayer → Term
  term_at env labels (Stmt-F.ClassDeclaration c) = spec.class_declaration low env c
  term_at env labels (Stmt-F.Expression e) = expr low env e
  term_at env labels (Stmt-F.Block place l) = spec.block low env l
  term_at env labels (Stmt-F.If place t a b) = spec.if_term low env t a b
  term_at env labels (Stmt-F.Switch place e cs) = spec.switch low env e cs
  term_at env labels (Stmt-F.Try place l h f) = spec.try_term low env l h f
  term_at env labels s = jump_at env labels s

  abbrev pub term_row : Env → List Name → Stmt → Term
  term_row env labels s = term_at env labels (out-Stmt s)
