-- What is known of a tree's parts is known of those below them.
use Rattle.std.proofs.Common.{◌≡◌, ℕ, zero, suc, true, List, [], ◌∷◌, ◌++◌}
use Rattle.js_tree.specs.Layers.{ExprLayer}
use Rattle.js_tree.specs.declared.tree.Argument.TheOpen.{Expr-F}
use Rattle.js_tree.specs.declared.tree.Expr.{Expr, out-Expr}
use Rattle.js_names.specs.declared.bound.TheConstants.{TREE_DEPTH}
use Rattle.js_walk.specs.Parts.{TreePart, ExpressionPart}
use Rattle.js_lower_table.specs.Entries.{bare, bare_at, bare_to}
use Rattle.js_early.specs.declared.context.EarlyContext.{EarlyContext}
use Rattle.js_early.specs.declared.context.EarlyLabel.{EarlyLabel}
use Rattle.js_early.specs.Contexts.{context_in}
use Rattle.js_lower_laws.specs.Sound.{AreSound, labels_below, no_parts, part_sound, sound, whole_parts, whole_parts_at}

abbrev pub L : EarlyContext → List EarlyLabel → TreePart → Type 0
L ctx kl p = AreSound ctx kl (p ∷ [])

abbrev pub LE : EarlyContext → List EarlyLabel → Expr → Type 0
LE ctx kl e = AreSound ctx kl (ExpressionPart e ∷ [])

pub first : {ctx : EarlyContext} {kl : List EarlyLabel} (p : TreePart) (ps : List TreePart) → AreSound ctx kl (p ∷ ps) → L ctx kl p
first p ps (sound _ _ _ _ own under rest) = sound _ _ p [] own under (no_parts _ _)

pub behind : {ctx : EarlyContext} {kl : List EarlyLabel} (p : TreePart) (ps : List TreePart) → AreSound ctx kl (p ∷ ps) → AreSound ctx kl ps
behind p ps (sound _ _ _ _ own under rest) = rest

pub below : {ctx : EarlyContext} {kl : List EarlyLabel} (p : TreePart) → L ctx kl p → AreSound (context_in ctx p) (labels_below kl p) (whole_parts p)
below p (sound _ _ _ _ own under rest) = under

pub has : {ctx : EarlyContext} {kl : List EarlyLabel} (p : TreePart) → L ctx kl p → part_sound ctx kl p ≡ true
has p (sound _ _ _ _ own under rest) = own

pub left : {ctx : EarlyContext} {kl : List EarlyLabel} (a b : List TreePart) → AreSound ctx kl (a ++ b) → AreSound ctx kl a
left [] b h = no_parts _ _
left (p ∷ ps) b (sound _ _ _ _ own under rest) = sound _ _ p ps own under (left ps b rest)

pub right : {ctx : EarlyContext} {kl : List EarlyLabel} (a b : List TreePart) → AreSound ctx kl (a ++ b) → AreSound ctx kl b
right [] b h = h
right (p ∷ ps) b (sound _ _ _ _ own under rest) = right ps b rest

bare_layer : {ctx : EarlyContext} {kl : List EarlyLabel} (f : Expr → Expr) (e : Expr) (l : ExprLayer) → ((i : Expr) → LE ctx kl i → LE ctx kl (f i)) → LE ctx kl e → AreSound ctx kl (whole_parts_at l) → LE ctx kl (bare_at f e l)
bare_layer f e (Expr-F.Parenthesized place i) g h under = g i under
bare_layer f e (Expr-F.Name i) g h under = h
bare_layer f e (Expr-F.This place) g h under = h
bare_layer f e (Expr-F.Null place) g h under = h
bare_layer f e (Expr-F.Bool place b) g h under = h
bare_layer f e (Expr-F.Number place n) g h under = h
bare_layer f e (Expr-F.String place s) g h under = h
bare_layer f e (Expr-F.Template place ss es) g h under = h
bare_layer f e (Expr-F.Array place l) g h under = h
bare_layer f e (Expr-F.Object place l) g h under = h
bare_layer f e (Expr-F.Function k) g h under = h
bare_layer f e (Expr-F.Class c) g h under = h
bare_layer f e (Expr-F.NewTarget place) g h under = h
bare_layer f e (Expr-F.Member place o i) g h under = h
bare_layer f e (Expr-F.Index place o k) g h under = h
bare_layer f e (Expr-F.SuperMember place i) g h under = h
bare_layer f e (Expr-F.SuperIndex place k) g h under = h
bare_layer f e (Expr-F.Call place k l) g h under = h
bare_layer f e (Expr-F.SuperCall place l) g h under = h
bare_layer f e (Expr-F.New place k l) g h under = h
bare_layer f e (Expr-F.Chain place a ls) g h under = h
bare_layer f e (Expr-F.Unary place o a) g h under = h
bare_layer f e (Expr-F.Update place o x a) g h under = h
bare_layer f e (Expr-F.Binary place o a b) g h under = h
bare_layer f e (Expr-F.Logical place o a b) g h under = h
bare_layer f e (Expr-F.Conditional place t a b) g h under = h
bare_layer f e (Expr-F.Assign place p a) g h under = h
bare_layer f e (Expr-F.OperatorAssign place o t a) g h under = h
bare_layer f e (Expr-F.Comma place l) g h under = h

bare_to_linked : {ctx : EarlyContext} {kl : List EarlyLabel} (d : ℕ) (e : Expr) → LE ctx kl e → LE ctx kl (bare_to d e)
bare_to_linked zero e h = h
bare_to_linked (suc d) e h = bare_layer (bare_to d) e (out-Expr e) (bare_to_linked d) h (below (ExpressionPart e) h)

pub bare_linked : {ctx : EarlyContext} {kl : List EarlyLabel} (e : Expr) → LE ctx kl e → LE ctx kl (bare e)
unfolding bare
bare_linked e h = bare_to_linked TREE_DEPTH e h

-- what is known of an expression's layer
pub layer_of : {ctx : EarlyContext} {kl : List EarlyLabel} (e : Expr) → LE ctx kl e → AreSound ctx kl (whole_parts_at (out-Expr e))
layer_of e h = below (ExpressionPart e) h
