-- What is known of the lowering of what lies below a form.
use Rattle.std.proofs.Common.{◌≡◌, ℕ, ◌<◌, ◌||◌, ◌&&◌, true, false, subst, Bool, List, [], ◌∷◌, map, refl}
use Rattle.js_tree.specs.Layers.{StmtLayer}
use Rattle.js_text.specs.Texts.{same_units}
use Rattle.js_tree.specs.declared.tree.Expr.{Expr}
use Rattle.js_tree.specs.declared.tree.Function.{Function, out-Function}
use Rattle.js_tree.specs.declared.tree.Pattern.{Pattern}
use Rattle.js_tree.specs.declared.tree.PatternField.{PatternField}
use Rattle.js_tree.specs.declared.tree.PropertyKey.{PropertyKey}
use Rattle.js_tree.specs.declared.tree.Stmt.{Stmt, out-Stmt}
use Rattle.js_term.specs.declared.term.Part.{Part}
use Rattle.js_term.specs.declared.term.TemplateKind.{TemplateKind}
use Rattle.js_term.specs.declared.term.Term.{Term}
use Rattle.js_names.specs.Lists.{flat}
use Rattle.js_frames.specs.Frames.{Env}
use Rattle.js_walk.specs.Parts.{TreePart, FunctionPart, PatternPart, StatementPart}
use Rattle.js_lower_table.specs.Entries.{Below, Current, Defaulted, InSlot, Keyed, Named, Omitted, Origin, Remaining, Taken, Valued}
use Rattle.js_lower_table.specs.Patterns.{computed, key_slot}
use Rattle.js_early.specs.Contexts.{function_context, is_loop, loop_context, switch_context}
use Rattle.js_early.specs.Rules.{has_label, has_loop_label}
use Rattle.js_lower_table.specs.Statements.{takes_labels_at}
use Rattle.js_lower_table.specs.Values.{Name}
use Rattle.js_lower_table.specs.declared.held.Held.{Held}
use Rattle.js_early.specs.declared.context.EarlyContext.{EarlyContext}
use Rattle.js_early.specs.declared.context.EarlyLabel.{EarlyLabel}
use Rattle.js_valid.specs.Surroundings.{Place, BreakTarget, ContinueTarget, InLabel, InLoop, SuperCall, SuperProperty, answer_or, call_in, first_answer, has_text, if_true, open_scopes, property_in}
use Rattle.js_valid.specs.Valid.{least_slots, nowhere}
use Rattle.js_lower_laws.specs.Sound.{AreSound}
use Rattle.js_lower_laws.proofs.Forms.{Fit, FitAll, FitParts, FitPart, FitTemplate, also, also_part, joined, parts_joined}
use Rattle.js_lower_laws.proofs.Linked.{L, LE, left, right}
use Rattle.js_lower_laws.proofs.Scopes.{AllowsSuper, At, IsHeld, older}

-- the slots that a bound value is read from are there
pub data IsFrom (ctx : EarlyContext) (kl : List EarlyLabel) (ns : List ℕ) : Origin → Type 0 where
  from_slot : (h : Held) → IsHeld ns h → IsFrom ctx kl ns (InSlot h)
  from_taken : (h : Held) → IsHeld ns h → IsFrom ctx kl ns (Taken h)
  from_remaining : (h : Held) → IsHeld ns h → IsFrom ctx kl ns (Remaining h)
  from_current : (h : Held) → IsHeld ns h → IsFrom ctx kl ns (Current h)
  from_named : (h : Held) (k : PropertyKey) → IsHeld ns h → IsFrom ctx kl ns (Named h k)
  from_keyed : (h k : Held) → IsHeld ns h → IsHeld ns k → IsFrom ctx kl ns (Keyed h k)
  from_omitted : (h : Held) (keys : ℕ) (fs : List PatternField) → IsHeld ns h → ((n : ℕ) → n < computed fs → IsHeld ns (key_slot keys n)) → IsFrom ctx kl ns (Omitted h keys fs)
  from_value : (e : Expr) → LE ctx kl e → IsFrom ctx kl ns (Valued e)
  from_default : (h : Held) (e : Expr) (name : Name) → IsHeld ns h → LE ctx kl e → IsFrom ctx kl ns (Defaulted h e name)

pub from_older : {ctx : EarlyContext} {kl : List EarlyLabel} (n : ℕ) (ns : List ℕ) (o : Origin) → IsFrom ctx kl ns o → IsFrom ctx kl (n ∷ ns) o
from_older n ns (InSlot h) (from_slot _ x) = from_slot h (older n ns h x)
from_older n ns (Taken h) (from_taken _ x) = from_taken h (older n ns h x)
from_older n ns (Remaining h) (from_remaining _ x) = from_remaining h (older n ns h x)
from_older n ns (Current h) (from_current _ x) = from_current h (older n ns h x)
from_older n ns (Named h k) (from_named _ _ x) = from_named h k (older n ns h x)
from_older n ns (Keyed h k) (from_keyed _ _ x y) = from_keyed h k (older n ns h x) (older n ns k y)
from_older n ns (Omitted h keys fs) (from_omitted _ _ _ x y) = from_omitted h keys fs (older n ns h x) (λ m lt. older n ns (key_slot keys m) (y m lt))
from_older n ns (Valued e) (from_value _ l) = from_value e l
from_older n ns (Defaulted h e name) (from_default _ _ _ x l) = from_default h e name (older n ns h x) l

abbrev pub is_nil : List Name → Bool
is_nil [] = true
is_nil (n ∷ ns) = false

-- the targets of jumps are those that the early rules know
pub record AllowsJumps (ctx : EarlyContext) (kl : List EarlyLabel) (breaks continues : List ℕ → Bool) : Type 0 where
  pub plain_break : (ctx.in_loop || ctx.in_switch) ≡ true → breaks [] ≡ true
  pub plain_continue : ctx.in_loop ≡ true → continues [] ≡ true
  pub to_label : (n : List ℕ) → has_label n kl ≡ true → breaks n ≡ true
  pub to_loop : (n : List ℕ) → has_loop_label n kl ≡ true → continues n ≡ true

abbrev pub Jumps : EarlyContext → List EarlyLabel → Place → Type 0
Jumps ctx kl p = AllowsJumps ctx kl (λ n. first_answer (BreakTarget n) p) (λ n. first_answer (ContinueTarget n) p)

-- some of them are labels that stand before a statement, which are a loop's where it is one
pub record AllowsPending (ctx : EarlyContext) (kl : List EarlyLabel) (labels : List Name) (loops : Bool) (l : StmtLayer) (breaks continues : List ℕ → Bool) : Type 0 where
  pub own_labels : (takes_labels_at l || is_nil labels) ≡ true
  pub plain_break : (ctx.in_loop || ctx.in_switch) ≡ true → breaks [] ≡ true
  pub plain_continue : ctx.in_loop ≡ true → continues [] ≡ true
  pub to_label : (n : List ℕ) → has_label n kl ≡ true → (has_text n labels || breaks n) ≡ true
  pub to_loop : (n : List ℕ) → has_loop_label n kl ≡ true → ((has_text n labels && loops) || continues n) ≡ true

abbrev pub Pending : EarlyContext → List EarlyLabel → List Name → Bool → StmtLayer → Place → Type 0
Pending ctx kl labels loops l p = AllowsPending ctx kl labels loops l (λ n. first_answer (BreakTarget n) p) (λ n. first_answer (ContinueTarget n) p)

or_true : (b : Bool) → (b || true) ≡ true
or_true true = refl
or_true false = refl

-- no label stands before a statement
pub none_pending : {ctx : EarlyContext} {kl : List EarlyLabel} (loops : Bool) (l : StmtLayer) (p : Place) → Jumps ctx kl p → Pending ctx kl [] loops l p
none_pending loops l p j = record {
  own_labels = or_true (takes_labels_at l);
  plain_break = j.plain_break;
  plain_continue = j.plain_continue;
  to_label = j.to_label;
  to_loop = j.to_loop;
}

pub plain_jumps : {ctx : EarlyContext} {kl : List EarlyLabel} (labels : List Name) (loops : Bool) (l : StmtLayer) (p : Place) → takes_labels_at l ≡ false
    → Pending ctx kl labels loops l p → Jumps ctx kl p
plain_jumps [] loops l p e j = record { plain_break = j.plain_break; plain_continue = j.plain_continue; to_label = j.to_label; to_loop = j.to_loop }
plain_jumps (n ∷ ns) loops l p e j =
    let x : false ≡ true = subst (λ v. (v || false) ≡ true) e j.own_labels in
    cc

label_of_loop : (a t x : Bool) → (t || x) ≡ true → answer_or (if_true (a || t)) x ≡ true
label_of_loop true t x h = refl
label_of_loop false true x h = refl
label_of_loop false false x h = h

loop_of_loop : (a t k x : Bool) → ((t && k) || x) ≡ true → answer_or (if_true (a || t)) x ≡ true
loop_of_loop true t k x h = refl
loop_of_loop false true k x h = refl
loop_of_loop false false k x h = h

pub more_answer : (b x : Bool) → x ≡ true → answer_or (if_true b) x ≡ true
more_answer true x h = refl
more_answer false x h = h

-- inside a loop that has these labels
pub looped : {ctx : EarlyContext} {kl : List EarlyLabel} (labels : List Name) (loops : Bool) (l : StmtLayer) (p : Place) → Pending ctx kl labels loops l p
    → Jumps (loop_context ctx) kl (InLoop ([] ∷ labels) ∷ p)
looped labels loops l p j =
    record {
      plain_break = λ h. refl;
      plain_continue = λ h. refl;
      to_label = λ n h. label_of_loop (same_units [] n) (has_text n labels) (first_answer (BreakTarget n) p) (j.to_label n h);
      to_loop = λ n h. loop_of_loop (same_units [] n) (has_text n labels) loops (first_answer (ContinueTarget n) p) (j.to_loop n h);
    }

pub in_loop_at : {ctx : EarlyContext} (env : Env) (p : Place) → At ctx env p → At (loop_context ctx) env p
in_loop_at env p at = (at.0, record { property = at.1.property; call = at.1.call })

pub in_switch_at : {ctx : EarlyContext} (env : Env) (p : Place) → At ctx env p → At (switch_context ctx) env p
in_switch_at env p at = (at.0, record { property = at.1.property; call = at.1.call })

pub switched : {ctx : EarlyContext} {kl : List EarlyLabel} (p : Place) → Jumps ctx kl p → Jumps (switch_context ctx) kl (InLabel [] ∷ p)
switched p j =
    record {
      plain_break = λ h. refl;
      plain_continue = j.plain_continue;
      to_label = λ n h. more_answer (same_units [] n) (first_answer (BreakTarget n) p) (j.to_label n h);
      to_loop = j.to_loop;
    }

-- what a template of a kind allows
abbrev pub KindAt : EarlyContext → TemplateKind → Place → Type 0
KindAt ctx k p = AllowsSuper ctx (answer_or (property_in k) (first_answer SuperProperty p)) (answer_or (call_in k) (first_answer SuperCall p))

-- the lowering of what lies below
pub record Lowers (b : Below) : Type 0 where
  pub expr : {ctx : EarlyContext} {kl : List EarlyLabel} (env : Env) (p : Place) (name : Name) (e : Expr) → At ctx env p → LE ctx kl e → Fit p (b.expr env name e)
  pub stmt : {ctx : EarlyContext} {kl : List EarlyLabel} (env : Env) (p : Place) (labels : List Name) (s : Stmt) → At ctx env p
      → Pending ctx kl labels (is_loop s) (out-Stmt s) p → L ctx kl (StatementPart s) → FitAll p (b.stmt env labels s)
  pub bind : {ctx : EarlyContext} {kl : List EarlyLabel} (env : Env) (p : Place) (assigned : Bool) (from : Origin) (q : Bool) (t : Pattern) → At ctx env p
      → IsFrom ctx kl (open_scopes p) from → L ctx kl (PatternPart q t) → Fit p (b.bind env assigned from t)
  pub template : {ctx : EarlyContext} {kl : List EarlyLabel} (env : Env) (p : Place) (k : TemplateKind) (name : Name) (d : Bool) (f : Function) → At ctx env p
      → least_slots k ≡ 0 → KindAt (function_context ctx d (out-Function f).kind) k p → L ctx kl (FunctionPart d f) → FitTemplate p (b.template env k name f)

-- LISTS

pub fit_flat : {ctx : EarlyContext} {kl : List EarlyLabel} {A : Type 0} (p : Place) (f : A → List Term) (g : A → List TreePart) → ((x : A) → AreSound ctx kl (g x) → FitAll p (f x)) → (l : List A) → AreSound ctx kl (flat g l)
    → FitAll p (flat f l)
fit_flat p f g h [] x = nowhere p
fit_flat p f g h (a ∷ l) x = joined p (f a) (flat f l) (h a (left (g a) (flat g l) x)) (fit_flat p f g h l (right (g a) (flat g l) x))

pub fit_map : {ctx : EarlyContext} {kl : List EarlyLabel} {A : Type 0} (p : Place) (f : A → Term) (g : A → List TreePart) → ((x : A) → AreSound ctx kl (g x) → Fit p (f x)) → (l : List A) → AreSound ctx kl (flat g l)
    → FitAll p (map f l)
fit_map p f g h [] x = nowhere p
fit_map p f g h (a ∷ l) x = also p (f a) (map f l) (h a (left (g a) (flat g l) x)) (fit_map p f g h l (right (g a) (flat g l) x))

pub fit_part_map : {ctx : EarlyContext} {kl : List EarlyLabel} {A : Type 0} (p : Place) (f : A → Part) (g : A → List TreePart) → ((x : A) → AreSound ctx kl (g x) → FitPart p (f x)) → (l : List A) → AreSound ctx kl (flat g l)
    → FitParts p (map f l)
fit_part_map p f g h [] x = nowhere p
fit_part_map p f g h (a ∷ l) x = also_part p (f a) (map f l) (h a (left (g a) (flat g l) x)) (fit_part_map p f g h l (right (g a) (flat g l) x))

pub fit_part_flat : {ctx : EarlyContext} {kl : List EarlyLabel} {A : Type 0} (p : Place) (f : A → List Part) (g : A → List TreePart) → ((x : A) → AreSound ctx kl (g x) → FitParts p (f x)) → (l : List A)
    → AreSound ctx kl (flat g l) → FitParts p (flat f l)
fit_part_flat p f g h [] x = nowhere p
fit_part_flat p f g h (a ∷ l) x = parts_joined p (f a) (flat f l) (h a (left (g a) (flat g l) x)) (fit_part_flat p f g h l (right (g a) (flat g l) x))
