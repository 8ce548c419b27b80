-- The rows of expressions that take no name, in the parts in which the code goes over them.
use Rattle.std.specs.Prelude.{false, map, Some}
use Rattle.js_tree.specs.Layers.{ExprLayer}
use Rattle.js_tree.specs.declared.tree.Argument.TheOpen.{Expr-F}
use Rattle.js_tree.specs.declared.tree.Expr.{Expr, out-Expr}
use Rattle.js_term.specs.declared.term.Term.{Term}
use Rattle.js_term.specs.declared.term.Term.TheVariants as term
use Rattle.js_frames.specs.Frames.{Env}
use Rattle.js_lower_table.specs.Entries.{Below}
use Rattle.js_lower_table.specs.Values.{array, object, text, undefined}
use Rattle.js_lower_table.specs.Expressions as spec

module _ (low : Below) where
  abbrev pub assign_at : Env → ExprLayer → Term
  assign_at env (Expr-F.Conditional place t a b) = term.If (spec.expr low env t) (spec.expr low env a) (Some (spec.expr low env b))
  assign_at env (Expr-F.Assign place p e) = spec.assign low env p e
  assign_at env (Expr-F.OperatorAssign place o t e) = spec.operate low env o t e
  assign_at env (Expr-F.Update place o prefix e) = spec.update low env o prefix e
  assign_at env _ = undefined

  abbrev pub assign_row : Env → Expr → Term
  assign_row env e = assign_at env (out-Expr e)

  abbrev pub operator_at : Env → ExprLayer → Term
  operator_at env (Expr-F.Unary place o e) = spec.unary_term low env o e
  operator_at env (Expr-F.Binary place o a b) = term.Binary o (spec.expr low env a) (spec.expr low env b)
  operator_at env (Expr-F.Logical place o a b) = term.Short o (spec.expr low env a) (spec.expr low env b)
  operator_at env (Expr-F.Comma place l) = term.Seq (map (spec.expr low env) l)
  operator_at env e = assign_at env e

  abbrev pub operator_row : Env → Expr → Term
  operator_row env e = operator_at env (out-Expr e)

  abbrev pub call_at : Env → ExprLayer → Term
  call_at env (Expr-F.Call place f l) = spec.call low env f l
  call_at env (Expr-F.SuperCall place l) = term.SuperNew (spec.arguments low env l)
  call_at env (Expr-F.New place f l) = term.New (spec.expr low env f) (spec.arguments low env l)
  call_at env (Expr-F.Chain place a ls) = spec.chain low env false a ls
  call_at env e = operator_at env e

  abbrev pub call_row : Env → Expr → Term
  call_row env e = call_at env (out-Expr e)

  abbrev pub unnamed_at : Env → ExprLayer → Term
  unnamed_at env (Expr-F.Template place ss es) = spec.template_literal low env ss es
  unnamed_at env (Expr-F.Array place l) = array (map (spec.element low env) l)
  unnamed_at env (Expr-F.Object place l) = object (map (spec.property low env) l)
  unnamed_at env (Expr-F.Member place o i) = term.Get (spec.expr low env o) (text i.name)
  unnamed_at env (Expr-F.Index place o k) = spec.get_index low env o k
  unnamed_at env (Expr-F.SuperIndex place k) = term.SuperGet (spec.expr low env k)
  unnamed_at env e = call_at env e

  abbrev pub unnamed_row : Env → Expr → Term
  unnamed_row env e = unnamed_at env (out-Expr e)
