-- The frames, labels and slots of statements.
use Rattle.std.proofs.Common.{◌≡◌, ℕ, pos, suc, ◌≤◌, Bool, true, false, List, [], ◌∷◌, ◌++◌, length, None, refl, sym, ap, subst, zero, ◌||◌, ◌&&◌, ◌∙◌}
use Rattle.js_tree.specs.Layers.{ForTargetLayer, StmtLayer}
use Rattle.js_tree.specs.declared.tree.Argument.TheOpen.{ForTarget-F, Stmt-F}
use Rattle.js_tree.specs.declared.operator.BinaryOperator.TheVariants as op
use Rattle.js_tree.specs.declared.tree.Clause.{Clause}
use Rattle.js_tree.specs.declared.tree.Declaration.{Declaration}
use Rattle.js_tree.specs.declared.tree.Identifier.{Identifier}
use Rattle.js_tree.specs.declared.tree.Pattern.{Pattern}
use Rattle.js_tree.specs.declared.tree.Stmt.{Stmt, out-Stmt}
use Rattle.js_term.specs.declared.term.Term.{Term}
use Rattle.js_names.specs.Lists.{flat}
use Rattle.js_names.specs.Names.{binding_lexicals, bound_names, clause_lexicals, declaration_lexicals, lexically_declared_names}
use Rattle.js_frames.specs.Frames.{Env}
use Rattle.js_lower_table.specs.Statements as statements
use Rattle.js_lower_table.specs.Values.{Name}
use Rattle.js_text.specs.Texts.{same_units}
use Rattle.js_early.specs.Contexts.{is_loop, is_loop_at, is_loop_to}
use Rattle.js_early.specs.Rules.{has_label, has_loop_label}
use Rattle.js_names.specs.declared.bound.TheConstants.{TREE_DEPTH}
use Rattle.js_early.specs.declared.context.EarlyContext.{EarlyContext}
use Rattle.js_early.specs.declared.context.EarlyLabel.{EarlyLabel}
use Rattle.js_valid.specs.Surroundings.{Place, BreakTarget, ContinueTarget, InLabel, SuperCall, SuperProperty, answer_or, first_answer, has_text, if_true, is_slot, open_scopes}
use Rattle.js_valid.specs.Valid.{nowhere}
use Rattle.js_lower_laws.proofs.Forms.{Fit, FitAll, fit_binary, fit_if, fit_label, fit_seq, fit_set_local}
use Rattle.js_lower_laws.proofs.Lowering.{more_answer}
use Rattle.js_lower_laws.proofs.Names.{fit_here, fit_integer, fit_same_value}
use Rattle.js_lower_laws.proofs.Scopes.{AreOpen, At, is_plain, length_names, plain_names}

-- FRAMES

pub block_plain : (l : List Stmt) → is_plain (statements.block_frame l) ≡ true
block_plain l = plain_names (flat lexically_declared_names l) [] refl

pub for_plain_frame : (d : Declaration) → is_plain (statements.for_frame d) ≡ true
for_plain_frame d = plain_names (declaration_lexicals d) [] refl

pub target_plain_at : (t : ForTargetLayer) → is_plain (statements.target_frame_at t) ≡ true
target_plain_at (ForTarget-F.ForBinding k p) = plain_names (binding_lexicals k p) [] refl
target_plain_at (ForTarget-F.ForAssignment p) = refl

pub switch_plain : (cs : List Clause) → is_plain (statements.switch_frame cs) ≡ true
switch_plain cs = plain_names (flat clause_lexicals cs) _ refl

pub switch_slots : (cs : List Clause) → 2 ≤ length (statements.switch_frame cs)
switch_slots cs = length_names (flat clause_lexicals cs) (statements.hidden_slot ∷ statements.hidden_slot ∷ [])

pub catch_plain : (p : Pattern) → is_plain (statements.catch_frame p) ≡ true
catch_plain p = plain_names (bound_names false p) [] refl

-- LABELS

-- inside the terms of some labels
abbrev pub within_labels : List Name → Place → Place
within_labels [] p = p
within_labels (l ∷ ls) p = within_labels ls (InLabel l ∷ p)

pub fit_label_all : (ls : List Name) (t : Term) (p : Place) → Fit (within_labels ls p) t → Fit p (statements.label_all ls t)
fit_label_all [] t p x = x
fit_label_all (l ∷ ls) t p x = fit_label p l _ (fit_label_all ls t (InLabel l ∷ p) x)

pub same_scopes : (ls : List Name) (p : Place) → open_scopes (within_labels ls p) ≡ open_scopes p
same_scopes [] p = refl
same_scopes (l ∷ ls) p = same_scopes ls (InLabel l ∷ p)

pub same_property : (ls : List Name) (p : Place) → first_answer SuperProperty (within_labels ls p) ≡ first_answer SuperProperty p
same_property [] p = refl
same_property (l ∷ ls) p = same_property ls (InLabel l ∷ p)

pub same_call : (ls : List Name) (p : Place) → first_answer SuperCall (within_labels ls p) ≡ first_answer SuperCall p
same_call [] p = refl
same_call (l ∷ ls) p = same_call ls (InLabel l ∷ p)

pub same_continue : (n : Name) (ls : List Name) (p : Place) → first_answer (ContinueTarget n) (within_labels ls p) ≡ first_answer (ContinueTarget n) p
same_continue n [] p = refl
same_continue n (l ∷ ls) p = same_continue n ls (InLabel l ∷ p)

pub or_true : (b : Bool) → (b || true) ≡ true
or_true true = refl
or_true false = refl

pub or_assoc : (a b c : Bool) → (a || (b || c)) ≡ ((a || b) || c)
or_assoc true b c = refl
or_assoc false b c = refl

pub label_further : (a t x : Bool) → ((a || t) || x) ≡ true → (t || answer_or (if_true a) x) ≡ true
label_further true true x h = refl
label_further true false x h = refl
label_further false t x h = h

pub break_within : (n : Name) (ls : List Name) (p : Place) → (has_text n ls || first_answer (BreakTarget n) p) ≡ true → first_answer (BreakTarget n) (within_labels ls p) ≡ true
break_within n [] p h = h
break_within n (l ∷ ls) p h = break_within n ls (InLabel l ∷ p) (label_further (same_units l n) (has_text n ls) (first_answer (BreakTarget n) p) h)

pub break_still : (n : Name) (ls : List Name) (p : Place) → first_answer (BreakTarget n) p ≡ true → first_answer (BreakTarget n) (within_labels ls p) ≡ true
break_still n [] p h = h
break_still n (l ∷ ls) p h = break_still n ls (InLabel l ∷ p) (more_answer (same_units l n) (first_answer (BreakTarget n) p) h)

pub at_within : {ctx : EarlyContext} (env : Env) (ls : List Name) (p : Place) → At ctx env p → At ctx env (within_labels ls p)
at_within env ls p at = (
  subst (λ v. AreOpen env v) (sym (same_scopes ls p)) at.0,
  record { property = λ x. same_property ls p ∙ at.1.property x; call = λ x. same_call ls p ∙ at.1.call x },
)

-- the labels of the early rules and those of lowering grow together
pub one_more_by : (hl su ht x : Bool) → (hl ≡ true → (ht || x) ≡ true) → (hl || (su || false)) ≡ true → ((ht || (su || false)) || x) ≡ true
one_more_by true su true x f h = refl
one_more_by true true false x f h = refl
one_more_by true false false x f h = f refl
one_more_by false true true x f h = refl
one_more_by false true false x f h = refl
one_more_by false false ht x f h = cc

pub text_append : (n : Name) (xs ys : List Name) → has_text n (xs ++ ys) ≡ (has_text n xs || has_text n ys)
text_append n [] ys = refl
text_append n (x ∷ xs) ys = ap (λ v. same_units x n || v) (text_append n xs ys) ∙ or_assoc (same_units x n) (has_text n xs) (has_text n ys)

pub label_append : (n : Name) (xs ys : List EarlyLabel) → has_label n (xs ++ ys) ≡ (has_label n xs || has_label n ys)
label_append n [] ys = refl
label_append n (x ∷ xs) ys = ap (λ v. same_units x.name n || v) (label_append n xs ys) ∙ or_assoc (same_units x.name n) (has_label n xs) (has_label n ys)

pub loop_label_append : (n : Name) (xs ys : List EarlyLabel) → has_loop_label n (xs ++ ys) ≡ (has_loop_label n xs || has_loop_label n ys)
loop_label_append n [] ys = refl
loop_label_append n (x ∷ xs) ys =
    ap (λ v. (x.is_loop && same_units x.name n) || v) (loop_label_append n xs ys) ∙ or_assoc (x.is_loop && same_units x.name n) (has_loop_label n xs) (has_loop_label n ys)

-- the labels of a labelled statement
abbrev pub label_here : Name → Bool → EarlyLabel
label_here n loops = record { name = n; is_loop = loops }

pub labels_grow : (n m : Name) (ls : List EarlyLabel) (labels : List Name) (loops x : Bool) → (has_label m ls ≡ true → (has_text m labels || x) ≡ true)
    → has_label m (ls ++ label_here n loops ∷ []) ≡ true → (has_text m (labels ++ n ∷ []) || x) ≡ true
labels_grow n m ls labels loops x f h =
    let g : (has_label m ls || (same_units n m || false)) ≡ true = sym (label_append m ls (label_here n loops ∷ [])) ∙ h in
    ap (λ v. v || x) (text_append m labels (n ∷ [])) ∙ one_more_by (has_label m ls) (same_units n m) (has_text m labels) x f g

pub one_loop_more : (hl su ht old new x : Bool) → (old ≡ true → new ≡ true) → (hl ≡ true → ((ht && old) || x) ≡ true) → (hl || ((new && su) || false)) ≡ true
    → (((ht || (su || false)) && new) || x) ≡ true
one_loop_more true su true true new x g f h = rw (g refl) refl
one_loop_more true su true false new x g f h = rw (f refl) (or_true (((true || (su || false)) && new)))
one_loop_more true su false old new x g f h = rw (f refl) (or_true (((false || (su || false)) && new)))
one_loop_more false true true old true x g f h = refl
one_loop_more false true false old true x g f h = refl
one_loop_more false su ht old false x g f h = cc
one_loop_more false false ht old true x g f h = cc

pub loop_labels_grow : (n m : Name) (ls : List EarlyLabel) (labels : List Name) (old new x : Bool) → (old ≡ true → new ≡ true)
    → (has_loop_label m ls ≡ true → ((has_text m labels && old) || x) ≡ true) → has_loop_label m (ls ++ label_here n new ∷ []) ≡ true
    → ((has_text m (labels ++ n ∷ []) && new) || x) ≡ true
loop_labels_grow n m ls labels old new x g f h =
    let k : (has_loop_label m ls || ((new && same_units n m) || false)) ≡ true = sym (loop_label_append m ls (label_here n new ∷ [])) ∙ h in
    ap (λ v. (v && new) || x) (text_append m labels (n ∷ [])) ∙ one_loop_more (has_loop_label m ls) (same_units n m) (has_text m labels) old new x g f k

-- a statement with a label is a loop only where the statement behind it is one
pub more_layer : (d : ℕ) (l : StmtLayer) → ((s : Stmt) → is_loop_to d s ≡ true → is_loop_to (suc d) s ≡ true) → is_loop_at (is_loop_to d) l ≡ true
    → is_loop_at (is_loop_to (suc d)) l ≡ true
more_layer d (Stmt-F.While place t s) f h = refl
more_layer d (Stmt-F.DoWhile place s t) f h = refl
more_layer d (Stmt-F.For place i t u s) f h = refl
more_layer d (Stmt-F.ForOf place t e s) f h = refl
more_layer d (Stmt-F.ForIn place t e s) f h = refl
more_layer d (Stmt-F.Labelled i s) f h = f s h
more_layer d (Stmt-F.Declare k) f h = cc
more_layer d (Stmt-F.FunctionDeclaration k) f h = cc
more_layer d (Stmt-F.ClassDeclaration k) f h = cc
more_layer d (Stmt-F.Expression e) f h = cc
more_layer d (Stmt-F.Block place l) f h = cc
more_layer d (Stmt-F.Empty place) f h = cc
more_layer d (Stmt-F.If place t a b) f h = cc
more_layer d (Stmt-F.Continue place l) f h = cc
more_layer d (Stmt-F.Break place l) f h = cc
more_layer d (Stmt-F.Return place e) f h = cc
more_layer d (Stmt-F.Throw place e) f h = cc
more_layer d (Stmt-F.Switch place e cs) f h = cc
more_layer d (Stmt-F.Try place l k g) f h = cc
more_layer d (Stmt-F.Debugger place) f h = cc

pub more_depth : (d : ℕ) (s : Stmt) → is_loop_to d s ≡ true → is_loop_to (suc d) s ≡ true
more_depth zero s h = cc
more_depth (suc d) s h = more_layer d (out-Stmt s) (more_depth d) h

pub behind_to : (d : ℕ) (s t : Stmt) (i : Identifier) → out-Stmt s ≡ Stmt-F.Labelled i t → is_loop_to d s ≡ true → is_loop_to d t ≡ true
behind_to zero s t i e h = cc
behind_to (suc d) s t i e h = more_depth d t (subst (λ l. is_loop_at (is_loop_to d) l ≡ true) e h)

pub loop_behind : (s t : Stmt) (i : Identifier) → out-Stmt s ≡ Stmt-F.Labelled i t → is_loop s ≡ true → is_loop t ≡ true
unfolding is_loop
loop_behind s t i e h = behind_to TREE_DEPTH s t i e h

-- the slots of a `switch`
pub fit_is_open : (p : Place) → is_slot p 0 1 ≡ true → Fit p statements.is_open
fit_is_open p one = fit_binary p op.Less _ _ (fit_here p 1 one) (fit_integer p (pos 0))

pub fit_go_on : (p : Place) (i : ℕ) → is_slot p 0 1 ≡ true → Fit p (statements.go_on_at i)
fit_go_on p i one = fit_set_local p 0 1 false _ one (fit_integer p (pos i))

pub fit_case : (p : Place) (i : ℕ) (t : Term) → is_slot p 0 0 ≡ true → is_slot p 0 1 ≡ true → Fit p t → Fit p (statements.case_term i t)
fit_case p i t zero_there one x =
    fit_if p _ _ None (fit_is_open p one) (fit_if p _ _ None (fit_same_value p _ t (fit_here p 0 zero_there) x) (fit_go_on p i one) (nowhere p)) (nowhere p)

pub fit_default : (p : Place) (i : ℕ) → is_slot p 0 1 ≡ true → Fit p (statements.default_term i)
fit_default p i one = fit_if p _ _ None (fit_is_open p one) (fit_go_on p i one) (nowhere p)

pub fit_clause : (p : Place) (i : ℕ) (l : List Term) → is_slot p 0 1 ≡ true → FitAll p l → Fit p (statements.clause_term i l)
fit_clause p i l one x = fit_if p _ _ None (fit_binary p op.LessOrEqual _ _ (fit_here p 1 one) (fit_integer p (pos i))) (fit_seq p l x) (nowhere p)

pub without : (t k x : Bool) → k ≡ false → ((t && k) || x) ≡ true → x ≡ true
without true true x e h = cc
without true false x e h = h
without false k x e h = h

pub no_loop_layer : (d : ℕ) (l : StmtLayer) → statements.takes_labels_at l ≡ false → is_loop_at (is_loop_to d) l ≡ false
no_loop_layer d (Stmt-F.While place t s) h = cc
no_loop_layer d (Stmt-F.DoWhile place s t) h = cc
no_loop_layer d (Stmt-F.For place i t u s) h = cc
no_loop_layer d (Stmt-F.ForOf place t e s) h = cc
no_loop_layer d (Stmt-F.ForIn place t e s) h = cc
no_loop_layer d (Stmt-F.Labelled i s) h = cc
no_loop_layer d (Stmt-F.Declare k) h = refl
no_loop_layer d (Stmt-F.FunctionDeclaration k) h = refl
no_loop_layer d (Stmt-F.ClassDeclaration k) h = refl
no_loop_layer d (Stmt-F.Expression e) h = refl
no_loop_layer d (Stmt-F.Block place l) h = refl
no_loop_layer d (Stmt-F.Empty place) h = refl
no_loop_layer d (Stmt-F.If place t a b) h = refl
no_loop_layer d (Stmt-F.Continue place l) h = refl
no_loop_layer d (Stmt-F.Break place l) h = refl
no_loop_layer d (Stmt-F.Return place e) h = refl
no_loop_layer d (Stmt-F.Throw place e) h = refl
no_loop_layer d (Stmt-F.Switch place e cs) h = refl
no_loop_layer d (Stmt-F.Try place l k g) h = refl
no_loop_layer d (Stmt-F.Debugger place) h = refl

pub no_loop_to : (d : ℕ) (s : Stmt) → statements.takes_labels s ≡ false → is_loop_to d s ≡ false
no_loop_to zero s h = refl
no_loop_to (suc d) s h = no_loop_layer d (out-Stmt s) h

pub no_loop : (s : Stmt) → statements.takes_labels s ≡ false → is_loop s ≡ false
unfolding is_loop
no_loop s h = no_loop_to TREE_DEPTH s h
