-- Expressions that the forms of names, literals, operators and templates make.
use Rattle.std.proofs.Common.{◌≡◌, ℕ, suc, Bool, true, false, List, [], ◌∷◌, ◌++◌, if◌then◌else◌, refl}
use Rattle.lava_base.specs.declared.place.Place.{Place}
use Rattle.js_lexer.specs.declared.keywords.Keyword.TheVariants as keyword
use Rattle.js_lexer.specs.declared.token.TokenKind.{TokenKind}
use Rattle.js_lexer.specs.declared.token.TokenKind.TheVariants as kind
use Rattle.js_tree.specs.Layers.{ExprLayer}
use Rattle.js_tree.specs.declared.tree.Argument.TheOpen.{Expr-F}
use Rattle.js_tree.specs.declared.tree.Expr.{Expr, out-Expr}
use Rattle.js_tree.specs.declared.tree.Expr.TheVariants as expr
use Rattle.js_names.specs.Lists.{flat}
use Rattle.js_phrase.specs.Lists.{substitution_of, substitutions_of}
use Rattle.js_phrase.specs.declared.phrase.Phrase.{Phrase}
use Rattle.js_phrase.specs.declared.phrase.Phrase.TheVariants as phrase
use Rattle.js_expr.specs.Commas.{comma_expression, extended_at, is_comma, pair}
use Rattle.js_expr.specs.Literals.{null_or_boolean, numeric_literal, string_literal, this_expression, word_literal}
use Rattle.js_expr.specs.Names.{identifier_reference}
use Rattle.js_expr.specs.News.{new_expression, new_target}
use Rattle.js_expr.specs.Operations.{binary, conditional, logical, postfix_update, prefix_update, unary}
use Rattle.js_expr.specs.Assignments.{operator_assignment}
use Rattle.js_expr.specs.Parts.{behind, expression_at, part, token_at}
use Rattle.js_phrase.specs.Places.{place_of}
use Rattle.js_expr.specs.Templates.{no_substitution_template, substitution_template, template_middle}
use Rattle.js_walk.specs.Parts as walk
use Rattle.js_walk.specs.Parts.{TreePart, ExpressionPart, UpdatePart}
use Rattle.js_lower_laws.specs.Sound.{whole_parts_at}
use Rattle.js_program_laws.specs.Formed.{All, Sits, expression_formed}
use Rattle.js_program_laws.proofs.Fits.{Fit, append, deeper, down, down2, down3, expression_by, made}
use Rattle.js_program_laws.proofs.Phrases.{AllGood, ExprGood, Good, behind_good, expression_good, part_good}

-- one level more is four parts more
abbrev pub more : ℕ → ℕ
more b = suc (suc (suc (suc (suc b))))

pub deep : (b : ℕ) (e : Expr) (l : ExprLayer) → out-Expr e ≡ l → expression_formed l ≡ true → Fit (suc b) (whole_parts_at l) → ExprGood (more b) e
deep b e l k f h = expression_by (suc (suc (suc (suc b)))) e l k f (down3 (suc b) (whole_parts_at l) h)

pub deep2 : (b : ℕ) (e : Expr) (l : ExprLayer) → out-Expr e ≡ l → expression_formed l ≡ true → Fit (suc (suc b)) (whole_parts_at l) → ExprGood (more b) e
deep2 b e l k f h = expression_by (suc (suc (suc (suc b)))) e l k f (down2 (suc (suc b)) (whole_parts_at l) h)

pub deep3 : (b : ℕ) (e : Expr) (l : ExprLayer) → out-Expr e ≡ l → expression_formed l ≡ true → Fit (suc (suc (suc b))) (whole_parts_at l) → ExprGood (more b) e
deep3 b e l k f h = expression_by (suc (suc (suc (suc b)))) e l k f (down (suc (suc (suc b))) (whole_parts_at l) h)

pub at : (b : ℕ) (i : ℕ) (l : List Phrase) → AllGood (suc b) l → ExprGood (suc b) (expression_at i l)
at b i l h = expression_good b (part i l) (part_good (suc b) i l h)

pub choice : (n : ℕ) (c : Bool) (x y : Expr) → ExprGood n x → ExprGood n y → ExprGood n (if c then x else y)
choice n true x y h k = h
choice n false x y h k = k

-- expressions, one after the other
pub operands_fit : (n : ℕ) (es : List Expr) → All (ExprGood n) es → Fit n (flat walk.operand es)
operands_fit n [] h = tt
operands_fit n (e ∷ es) h = (h.0, operands_fit n es h.1)

pub operands_back : (n : ℕ) (es : List Expr) → Fit n (flat walk.operand es) → All (ExprGood n) es
operands_back n [] h = tt
operands_back n (e ∷ es) h = (h.0, operands_back n es h.1)

-- NAMES AND LITERALS

pub identifier_good : (source : List ℕ) (b : ℕ) (l : List Phrase) → Good (more b) (identifier_reference source l)
identifier_good source b l = deep b _ _ (expr.outs-Name _) refl tt

pub this_form : (b : ℕ) (l : List Phrase) → Good (more b) (this_expression l)
this_form b l = deep b _ _ (expr.outs-This _) refl tt

pub number_good : (source : List ℕ) (b : ℕ) (l : List Phrase) → Good (more b) (numeric_literal source l)
number_good source b l = deep b _ _ (expr.outs-Number _ _) refl tt

pub string_good : (source : List ℕ) (b : ℕ) (l : List Phrase) → Good (more b) (string_literal source l)
string_good source b l = deep b _ _ (expr.outs-String _ _) refl tt

word_good : (b : ℕ) (place : Place) (k : TokenKind) → ExprGood (more b) (word_literal place k)
word_good b place (kind.Keyword keyword.True) = deep b _ _ (expr.outs-Bool place true) refl tt
word_good b place (kind.Keyword keyword.False) = deep b _ _ (expr.outs-Bool place false) refl tt
word_good b place _ = deep b _ _ (expr.outs-Null place) refl tt

pub null_good : (b : ℕ) (l : List Phrase) → Good (more b) (null_or_boolean l)
null_good b l = word_good b _ _

pub new_target_good : (b : ℕ) (l : List Phrase) → Good (more b) (new_target l)
new_target_good b l = deep b _ _ (expr.outs-NewTarget _) refl tt

-- TEMPLATES

pub plain_template_good : (source : List ℕ) (b : ℕ) (l : List Phrase) → Good (more b) (no_substitution_template source l)
plain_template_good source b l = deep b _ _ (expr.outs-Template _ _ _) refl tt

substituted : (n : ℕ) (p : Phrase) → Good n p → All (ExprGood n) (substitution_of p)
substituted n (phrase.Substitution s) h = (h, tt)
substituted n _ h = tt

pub template_good : (source : List ℕ) (b : ℕ) (l : List Phrase) → AllGood (suc b) l → Good (more b) (substitution_template source l)
template_good source b l h = deep b _ _ (expr.outs-Template _ _ _) refl
    (at b 1 l h, operands_fit (suc b) (substitutions_of (behind 2 l)) (made (Good (suc b)) (ExprGood (suc b)) substitution_of (behind 2 l) (substituted (suc b)) (behind_good (suc b) 2 l h)))

pub template_middle_good : (source : List ℕ) (b : ℕ) (l : List Phrase) → AllGood (suc b) l → Good (suc b) (template_middle source l)
template_middle_good source b l h = at b 1 l h

-- OPERATORS

pub unary_good : (b : ℕ) (l : List Phrase) → AllGood (suc b) l → Good (more b) (unary l)
unary_good b l h = deep b _ _ (expr.outs-Unary _ _ _) refl (at b 1 l h, tt)

-- what is changed, with the rule for targets round it
pub update_sits : (n : ℕ) (place : Place) (e : Expr) → ExprGood n e → Sits (suc n) (UpdatePart place e)
update_sits n place e h = (refl, (h, tt))

pub prefix_good : (b : ℕ) (l : List Phrase) → AllGood (suc b) l → Good (more b) (prefix_update l)
prefix_good b l h = deep2 b _ _ (expr.outs-Update _ _ _ _) refl (update_sits (suc b) (token_at 0 l).start (expression_at 1 l) (at b 1 l h), tt)

pub postfix_good : (b : ℕ) (l : List Phrase) → AllGood (suc b) l → Good (more b) (postfix_update l)
postfix_good b l h = deep2 b _ _ (expr.outs-Update _ _ _ _) refl (update_sits (suc b) (place_of (expression_at 0 l)) (expression_at 0 l) (at b 0 l h), tt)

pub binary_good : (b : ℕ) (l : List Phrase) → AllGood (suc b) l → Good (more b) (binary l)
binary_good b l h = deep b _ _ (expr.outs-Binary _ _ _ _) refl (at b 0 l h, (at b 2 l h, tt))

pub logical_good : (b : ℕ) (l : List Phrase) → AllGood (suc b) l → Good (more b) (logical l)
logical_good b l h = deep b _ _ (expr.outs-Logical _ _ _ _) refl (at b 0 l h, (at b 2 l h, tt))

pub conditional_good : (b : ℕ) (l : List Phrase) → AllGood (suc b) l → Good (more b) (conditional l)
conditional_good b l h = deep b _ _ (expr.outs-Conditional _ _ _ _) refl (at b 0 l h, (at b 2 l h, (at b 4 l h, tt)))

pub operator_assignment_good : (b : ℕ) (l : List Phrase) → AllGood (suc b) l → Good (more b) (operator_assignment l)
operator_assignment_good b l h = deep2 b _ _ (expr.outs-OperatorAssign _ _ _ _) refl
    (update_sits (suc b) (place_of (expression_at 0 l)) (expression_at 0 l) (at b 0 l h), (deeper (suc b) (ExpressionPart (expression_at 2 l)) (at b 2 l h), tt))

pub new_good : (b : ℕ) (l : List Phrase) → AllGood (suc b) l → Good (more b) (new_expression l)
new_good b l h = deep b _ _ (expr.outs-New _ _ _) refl (at b 1 l h, tt)

-- COMMAS

commas_more : (n : ℕ) (e x : Expr) (l : ExprLayer) → ExprGood (suc n) e → ExprGood n x → Fit n (whole_parts_at l) → ExprGood (suc n) (extended_at e x l)
commas_more n e x (Expr-F.Comma place l) h k under =
    expression_by n _ _ (expr.outs-Comma place (l ++ x ∷ [])) refl (operands_fit n (l ++ x ∷ []) (append (ExprGood n) l (x ∷ []) (operands_back n l under) (k, tt)))
commas_more n e x _ h k under = h

-- an expression of one level, as deep as that of one level more
pub lifted : (b : ℕ) (p : TreePart) → Sits (suc b) p → Sits (more b) p
lifted b p h = (down3 (suc (suc b)) (p ∷ []) (deeper (suc b) p h, tt)).0

pub comma_good : (b : ℕ) (l : List Phrase) → AllGood (suc b) l → Good (more b) (comma_expression l)
comma_good b l h =
    let first : ExprGood (suc b) (expression_at 0 l) = at b 0 l h in
    let last : ExprGood (suc b) (expression_at 2 l) = at b 2 l h in
    let whole : ExprGood (more b) (expression_at 0 l) = lifted b (ExpressionPart (expression_at 0 l)) first in
    choice (more b) (is_comma (expression_at 0 l)) _ _
    (commas_more (suc (suc (suc (suc b)))) (expression_at 0 l) (expression_at 2 l) (out-Expr (expression_at 0 l)) whole (down3 (suc b) (ExpressionPart (expression_at 2 l) ∷ []) (last, tt)).0 whole.1)
    (deep b (pair (expression_at 0 l) (expression_at 2 l)) _ (expr.outs-Comma _ _) refl (first, (last, tt)))
