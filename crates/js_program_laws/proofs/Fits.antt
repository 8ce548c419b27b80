-- Parts that are formed and end within a depth: lists of them, and each form of the tree over what stands below it.
use Rattle.std.proofs.Common.{◌≡◌, ℕ, zero, suc, Bool, true, List, [], ◌∷◌, ◌++◌, refl, sym, subst}
use Rattle.js_tree.specs.Layers.{ExprLayer, PatternLayer, StmtLayer}
use Rattle.js_tree.specs.declared.tree.Expr.{Expr, out-Expr}
use Rattle.js_tree.specs.declared.tree.Pattern.{Pattern, out-Pattern}
use Rattle.js_tree.specs.declared.tree.Stmt.{Stmt, out-Stmt}
use Rattle.js_names.specs.Lists.{flat}
use Rattle.js_phrase.specs.Lists as phrase_lists
use Rattle.js_walk.specs.Parts as walk
use Rattle.js_walk.specs.Parts.{TreePart, ExpressionPart, PatternPart, StatementPart}
use Rattle.js_lower_laws.specs.Sound.{whole_parts, whole_parts_at, whole_pattern_at}
use Rattle.js_program_laws.specs.Formed.{All, Sits, expression_formed, statement_formed}

-- LISTS

pub append : {A : Type 0} (P : A → Type 0) (a b : List A) → All P a → All P b → All P (a ++ b)
append P [] b x y = y
append P (p ∷ a) b x y = (x.0, append P a b x.1 y)

pub front : {A : Type 0} (P : A → Type 0) (a b : List A) → All P (a ++ b) → All P a
front P [] b x = tt
front P (p ∷ a) b x = (x.0, front P a b x.1)

pub back : {A : Type 0} (P : A → Type 0) (a b : List A) → All P (a ++ b) → All P b
back P [] b x = x
back P (p ∷ a) b x = back P a b x.1

pub each : {A : Type 0} (P Q : A → Type 0) (l : List A) → ((x : A) → P x → Q x) → All P l → All Q l
each P Q [] f h = tt
each P Q (x ∷ l) f h = (f x h.0, each P Q l f h.1)

-- what a form makes of each phrase of a list
pub made : {A B : Type 0} (P : A → Type 0) (Q : B → Type 0) (f : A → List B) (l : List A) → ((x : A) → P x → All Q (f x)) → All P l → All Q (phrase_lists.flat f l)
made P Q f [] g h = tt
made P Q f (x ∷ l) g h = append Q (f x) (phrase_lists.flat f l) (g x h.0) (made P Q f l g h.1)

abbrev pub Fit : ℕ → List TreePart → Type 0
Fit n ps = All (Sits n) ps

pub join : (n : ℕ) (a b : List TreePart) → Fit n a → Fit n b → Fit n (a ++ b)
join n a b x y = append (Sits n) a b x y

-- what stands below the items of a list
pub spread : {A : Type 0} (n : ℕ) (f : A → List TreePart) (l : List A) → All (λ x. Fit n (f x)) l → Fit n (flat f l)
spread n f [] h = tt
spread n f (x ∷ l) h = join n (f x) (flat f l) h.0 (spread n f l h.1)

pub gathered : {A : Type 0} (n : ℕ) (f : A → List TreePart) (l : List A) → Fit n (flat f l) → All (λ x. Fit n (f x)) l
gathered n f [] h = tt
gathered n f (x ∷ l) h = (front (Sits n) (f x) (flat f l) h, gathered n f l (back (Sits n) (f x) (flat f l) h))

-- DEPTHS

pub deeper : (n : ℕ) (p : TreePart) → Sits n p → Sits (suc n) p
deeper zero p h = absurd h
deeper (suc n) p h = (h.0, each (Sits n) (Sits (suc n)) (whole_parts p) (deeper n) h.1)

pub down : (n : ℕ) (ps : List TreePart) → Fit n ps → Fit (suc n) ps
down n ps h = each (Sits n) (Sits (suc n)) ps (deeper n) h

pub down2 : (n : ℕ) (ps : List TreePart) → Fit n ps → Fit (suc (suc n)) ps
down2 n ps h = down (suc n) ps (down n ps h)

pub down3 : (n : ℕ) (ps : List TreePart) → Fit n ps → Fit (suc (suc (suc n))) ps
down3 n ps h = down (suc (suc n)) ps (down2 n ps h)

-- FORMS

pub expression_by : (n : ℕ) (e : Expr) (l : ExprLayer) → out-Expr e ≡ l → expression_formed l ≡ true → Fit n (whole_parts_at l) → Sits (suc n) (ExpressionPart e)
expression_by n e l k f h = (subst (λ x. expression_formed x ≡ true) (sym k) f, subst (λ x. Fit n (whole_parts_at x)) (sym k) h)

pub statement_by : (n : ℕ) (s : Stmt) (l : StmtLayer) → out-Stmt s ≡ l → statement_formed l ≡ true → Fit n (walk.statement_parts_at l) → Sits (suc n) (StatementPart s)
statement_by n s l k f h = (subst (λ x. statement_formed x ≡ true) (sym k) f, subst (λ x. Fit n (walk.statement_parts_at x)) (sym k) h)

pub pattern_by : (n : ℕ) (b : Bool) (p : Pattern) (l : PatternLayer) → out-Pattern p ≡ l → Fit n (whole_pattern_at b l) → Sits (suc n) (PatternPart b p)
pattern_by n b p l k h = (refl, subst (λ x. Fit n (whole_pattern_at b x)) (sym k) h)
