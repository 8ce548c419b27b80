-- What members, calls, optional chains, `new` with arguments and `super` become.
use Rattle.std.proofs.Common.{◌≡◌, ◌||◌, ℕ, suc, Bool, true, false, List, [], ◌∷◌, ◌++◌, refl, sym, subst}
use Rattle.lava_base.specs.declared.place.Place.{Place}
use Rattle.js_tree.specs.Layers.{ArgumentLayer, ExprLayer, LinkStepLayer}
use Rattle.js_tree.specs.declared.tree.Argument.{Argument, out-Argument}
use Rattle.js_tree.specs.declared.tree.Argument.TheOpen.{Expr-F, LinkStep-F}
use Rattle.js_tree.specs.declared.tree.Argument.TheVariants as argument
use Rattle.js_tree.specs.declared.tree.Expr.{Expr, out-Expr}
use Rattle.js_tree.specs.declared.tree.Expr.TheVariants as expr
use Rattle.js_tree.specs.declared.tree.Link.{Link, out-Link, out-roll-Link}
use Rattle.js_tree.specs.declared.tree.LinkStep.{LinkStep, out-LinkStep}
use Rattle.js_tree.specs.declared.tree.LinkStep.TheVariants as step
use Rattle.js_names.specs.Lists.{flat}
use Rattle.js_phrase.specs.Lists.{argument_of, arguments_of}
use Rattle.js_phrase.specs.Phrases.{parenthesized, step_of}
use Rattle.js_phrase.specs.declared.phrase.Phrase.{Phrase}
use Rattle.js_phrase.specs.declared.phrase.Phrase.TheVariants as phrase
use Rattle.js_expr.specs.Members.{call_expression, call_step, is_chain, key_step, link, member_key, member_name, new_chain, optional_expression, optional_name, with_link_at}
use Rattle.js_expr.specs.News.{new_with_arguments, super_at, super_expression, super_name, with_arguments_at}
use Rattle.js_expr.specs.Parts.{behind, expression_at, part}
use Rattle.js_walk.specs.Parts as walk
use Rattle.js_walk.specs.Parts.{TreePart, ExpressionPart}
use Rattle.js_lower_table.specs.Expressions.{has_optional}
use Rattle.js_lower_laws.specs.Sound.{whole_parts_at}
use Rattle.js_program_laws.specs.Formed.{All, Sits, expression_formed}
use Rattle.js_program_laws.proofs.Fits.{Fit, back, down3, expression_by, front, join, made, spread}
use Rattle.js_program_laws.proofs.Phrases.{AllGood, ExprGood, Good, behind_good, part_good, step_good}
use Rattle.js_program_laws.proofs.Expressions.{at, choice, deep, lifted, more}

-- ARGUMENTS

abbrev ArgumentGood : ℕ → Argument → Type 0
ArgumentGood n a = Fit n (walk.argument a)

argument_by : (n : ℕ) (a : Argument) (l : ArgumentLayer) → out-Argument a ≡ l → Fit n (walk.argument_at l) → ArgumentGood n a
argument_by n a l k h = subst (λ x. Fit n (walk.argument_at x)) (sym k) h

argument_good : (n : ℕ) (p : Phrase) → Good n p → All (ArgumentGood n) (argument_of p)
argument_good n (phrase.Expression e) h = (argument_by n _ _ (argument.outs-Operand e) (h, tt), tt)
argument_good n (phrase.Covered c) h = (argument_by n _ _ (argument.outs-Operand (parenthesized c)) (h.0, tt), tt)
argument_good n (phrase.Spread e) h = (argument_by n _ _ (argument.outs-SpreadArgument e) (h, tt), tt)
argument_good n _ h = tt

pub arguments_good : (n : ℕ) (l : List Phrase) → AllGood n l → Fit n (flat walk.argument (arguments_of l))
arguments_good n l h = spread n walk.argument (arguments_of l) (made (Good n) (ArgumentGood n) argument_of l (argument_good n) h)

-- LINKS

flat_append : {A : Type 0} (n : ℕ) (l : List A) (x : A) (f : A → List TreePart) → Fit n (flat f l) → Fit n (f x) → Fit n (flat f (l ++ x ∷ []))
flat_append n [] x f h k = join n (f x) [] k tt
flat_append n (y ∷ l) x f h k =
    join n (f y) (flat f (l ++ x ∷ [])) (front (Sits n) (f y) (flat f l) h) (flat_append n l x f (back (Sits n) (f y) (flat f l) h) k)

stays_by : (b : Bool) (x y : Bool) → (x ≡ true → y ≡ true) → b || x ≡ true → b || y ≡ true
stays_by true x y f h = refl
stays_by false x y f h = f h

stays : (l : List Link) (k : Link) → has_optional l ≡ true → has_optional (l ++ k ∷ []) ≡ true
stays [] k h = absurd cc
stays (x ∷ l) k h = stays_by (out-Link x).optional (has_optional l) (has_optional (l ++ k ∷ [])) (stays l k) h

link_fits : (n : ℕ) (optional : Bool) (s : LinkStep) → Fit n (walk.link_step_at (out-LinkStep s)) → Fit n (walk.link (link optional s))
link_fits n optional s h = subst (λ r. Fit n (walk.link_step_at (out-LinkStep r.step))) (sym (out-roll-Link (record { optional = optional; step = s }))) h

-- a chain with one link more is as deep as it was, or as the link
linked : (n : ℕ) (e : Expr) (k : Link) (l : ExprLayer) → ExprGood (suc n) e → Fit n (walk.link k) → expression_formed l ≡ true → Fit n (whole_parts_at l) → ExprGood (suc n) (with_link_at e k l)
linked n e k (Expr-F.Chain place base links) h x formed under =
    expression_by n _ _ (expr.outs-Chain place base (links ++ k ∷ [])) (stays links k formed) (under.0, flat_append n links k walk.link under.1 x)
linked n e k _ h x formed under = h

link_more : (b : ℕ) (e : Expr) (k : Link) → ExprGood (suc b) e → Fit (suc b) (walk.link k) → ExprGood (more b) (with_link_at e k (out-Expr e))
link_more b e k h x =
    let whole : ExprGood (more b) e = lifted b (ExpressionPart e) h in
    linked (suc (suc (suc (suc b)))) e k (out-Expr e) whole (down3 (suc b) (walk.link k) x) whole.0 whole.1

step_by : (n : ℕ) (s : LinkStep) (l : LinkStepLayer) → out-LinkStep s ≡ l → Fit n (walk.link_step_at l) → Fit n (walk.link_step_at (out-LinkStep s))
step_by n s l k h = subst (λ x. Fit n (walk.link_step_at x)) (sym k) h

-- MEMBERS AND CALLS

pub member_name_good : (source : List ℕ) (b : ℕ) (l : List Phrase) → AllGood (suc b) l → Good (more b) (member_name source l)
member_name_good source b l h =
    choice (more b) (is_chain (expression_at 0 l)) _ _ (link_more b _ _ (at b 0 l h) (link_fits (suc b) false _ (step_by (suc b) _ _ (step.outs-MemberLink _) tt)))
    (deep b _ _ (expr.outs-Member _ _ _) refl (at b 0 l h, tt))

pub member_key_good : (b : ℕ) (l : List Phrase) → AllGood (suc b) l → Good (more b) (member_key l)
member_key_good b l h =
    choice (more b) (is_chain (expression_at 0 l)) _ _ (link_more b _ _ (at b 0 l h) (link_fits (suc b) false _ (step_by (suc b) _ _ (step.outs-IndexLink _) (at b 2 l h, tt))))
    (deep b _ _ (expr.outs-Index _ _ _) refl (at b 0 l h, (at b 2 l h, tt)))

pub call_good : (b : ℕ) (l : List Phrase) → AllGood (suc b) l → Good (more b) (call_expression l)
call_good b l h =
    let given : Fit (suc b) (flat walk.argument (arguments_of (behind 2 l))) = arguments_good (suc b) (behind 2 l) (behind_good (suc b) 2 l h) in
    choice (more b) (is_chain (expression_at 0 l)) _ _ (link_more b _ _ (at b 0 l h) (link_fits (suc b) false _ (step_by (suc b) _ _ (step.outs-CallLink _) given)))
    (deep b _ _ (expr.outs-Call _ _ _) refl (at b 0 l h, given))

-- the chain of a first `?.`
opened : (s : LinkStep) → has_optional (link true s ∷ []) ≡ true
opened s = subst (λ r. r.optional || false ≡ true) (sym (out-roll-Link (record { optional = true; step = s }))) refl

pub optional_good : (b : ℕ) (l : List Phrase) → AllGood (suc b) l → Good (more b) (optional_expression l)
optional_good b l h =
    let after : Fit (suc b) (walk.link (link true (step_of (part 2 l)))) = link_fits (suc b) true (step_of (part 2 l)) (step_good (suc b) (part 2 l) (part_good (suc b) 2 l h)) in
    choice (more b) (is_chain (expression_at 0 l)) _ _ (link_more b _ _ (at b 0 l h) after)
    (deep b (new_chain (expression_at 0 l) (link true (step_of (part 2 l)))) _ (expr.outs-Chain _ _ _) (opened (step_of (part 2 l)))
    (at b 0 l h, join (suc b) (walk.link (link true (step_of (part 2 l)))) [] after tt))

pub optional_name_good : (source : List ℕ) (n : ℕ) (l : List Phrase) → Good n (optional_name source l)
optional_name_good source n l = step_by n _ _ (step.outs-MemberLink _) tt

pub super_name_good : (source : List ℕ) (n : ℕ) (l : List Phrase) → Good n (super_name source l)
super_name_good source n l = step_by n _ _ (step.outs-MemberLink _) tt

pub key_step_good : (b : ℕ) (l : List Phrase) → AllGood (suc b) l → Good (suc b) (key_step l)
key_step_good b l h = step_by (suc b) _ _ (step.outs-IndexLink _) (at b 1 l h, tt)

pub call_step_good : (n : ℕ) (l : List Phrase) → AllGood n l → Good n (call_step l)
call_step_good n l h = step_by n _ _ (step.outs-CallLink _) (arguments_good n (behind 1 l) (behind_good n 1 l h))

super_layer : (b : ℕ) (place : Place) (l : LinkStepLayer) → Fit (suc b) (walk.link_step_at l) → ExprGood (more b) (super_at place l)
super_layer b place (LinkStep-F.MemberLink i) h = deep b _ _ (expr.outs-SuperMember place i) refl tt
super_layer b place (LinkStep-F.IndexLink e) h = deep b _ _ (expr.outs-SuperIndex place e) refl h
super_layer b place (LinkStep-F.CallLink l) h = deep b _ _ (expr.outs-SuperCall place l) refl h

pub super_good : (b : ℕ) (l : List Phrase) → AllGood (suc b) l → Good (more b) (super_expression l)
super_good b l h = super_layer b _ (out-LinkStep (step_of (part 1 l))) (step_good (suc b) (part 1 l) (part_good (suc b) 1 l h))

-- `new` WITH ARGUMENTS: the arguments stand one level deeper than the `new` that they follow

given_to : (n : ℕ) (e : Expr) (l : List Argument) (x : ExprLayer) → ExprGood (suc n) e → Fit n (flat walk.argument l) → Fit n (whole_parts_at x) → ExprGood (suc n) (with_arguments_at e l x)
given_to n e l (Expr-F.New place callee none) h y under = expression_by n _ _ (expr.outs-New place callee l) refl (under.0, y)
given_to n e l _ h y under = h

pub new_with_good : (b : ℕ) (l : List Phrase) → ExprGood (more b) (expression_at 0 l) → AllGood (suc b) (behind 2 l) → Good (more b) (new_with_arguments l)
new_with_good b l h k =
    given_to (suc (suc (suc (suc b)))) (expression_at 0 l) (arguments_of (behind 2 l)) (out-Expr (expression_at 0 l)) h (down3 (suc b) _ (arguments_good (suc b) (behind 2 l) k)) h.1
