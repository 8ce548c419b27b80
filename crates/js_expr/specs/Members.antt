-- Members and calls, and chains of them with `?.`.
use Rattle.std.specs.Prelude.{ℕ, Bool, true, false, if◌then◌else◌, List, [], ◌∷◌, ◌++◌}
use Rattle.js_tree.specs.declared.tree.Argument.{Argument}
use Rattle.js_tree.specs.declared.tree.Argument.TheOpen.{Expr-F}
use Rattle.js_tree.specs.declared.tree.Expr.{Expr, out-Expr}
use Rattle.js_tree.specs.declared.tree.Expr.TheVariants as expr
use Rattle.js_tree.specs.declared.tree.Identifier.{Identifier}
use Rattle.js_tree.specs.declared.tree.Link.{Link, roll-Link}
use Rattle.js_tree.specs.declared.tree.LinkStep.{LinkStep}
use Rattle.js_tree.specs.declared.tree.LinkStep.TheVariants as step
use Rattle.js_tree.specs.Layers.{ExprLayer}
use Rattle.js_phrase.specs.declared.phrase.Phrase.{Phrase}
use Rattle.js_phrase.specs.declared.phrase.Phrase.TheVariants as phrase
use Rattle.js_phrase.specs.Lists.{arguments_of}
use Rattle.js_phrase.specs.Phrases.{step_of}
use Rattle.js_phrase.specs.Places.{place_of}
use Rattle.js_expr.specs.Names.{identifier}
use Rattle.js_expr.specs.Parts.{part, behind, token_at, expression_at}

-- a chain with `?.`, which is in no parentheses
abbrev pub is_chain_at : ExprLayer → Bool
is_chain_at (Expr-F.Chain place base links) = true
is_chain_at _ = false

abbrev pub is_chain : Expr → Bool
is_chain e = is_chain_at (out-Expr e)

-- a chain with one link more
abbrev pub with_link_at : Expr → Link → ExprLayer → Expr
with_link_at e k (Expr-F.Chain place base links) = expr.Chain place base (links ++ k ∷ [])
with_link_at e k _ = e

abbrev pub with_link : Expr → Link → Expr
with_link e k = with_link_at e k (out-Expr e)

abbrev pub link : Bool → LinkStep → Link
link optional s = roll-Link (record { optional = optional; step = s })

-- behind a chain, what follows belongs to it
-- ECMA-262 OptionalChain
-- ECMA-262 MemberExpression
abbrev pub member : Expr → Identifier → Expr
member e n =
    if is_chain e then with_link e (link false (step.MemberLink n)) else expr.Member (place_of e) e n

abbrev pub index : Expr → Expr → Expr
index e k =
    if is_chain e then with_link e (link false (step.IndexLink k)) else expr.Index (place_of e) e k

-- ECMA-262 CallExpression
abbrev pub call : Expr → List Argument → Expr
call e l =
    if is_chain e then with_link e (link false (step.CallLink l)) else expr.Call (place_of e) e l

-- a chain of one link
abbrev pub new_chain : Expr → Link → Expr
new_chain e k = expr.Chain (place_of e) e (k ∷ [])

-- ECMA-262 OptionalExpression
abbrev pub optional : Expr → LinkStep → Expr
optional e s = if is_chain e then with_link e (link true s) else new_chain e (link true s)

abbrev pub member_name : List ℕ → List Phrase → Phrase
member_name source l =
    phrase.Expression (member (expression_at 0 l) (identifier source (token_at 2 l)))

abbrev pub member_key : List Phrase → Phrase
member_key l = phrase.Expression (index (expression_at 0 l) (expression_at 2 l))

abbrev pub call_expression : List Phrase → Phrase
call_expression l = phrase.Expression (call (expression_at 0 l) (arguments_of (behind 2 l)))

abbrev pub optional_expression : List Phrase → Phrase
optional_expression l = phrase.Expression (optional (expression_at 0 l) (step_of (part 2 l)))

-- what stands behind `?.`

abbrev pub optional_name : List ℕ → List Phrase → Phrase
optional_name source l = phrase.Step (step.MemberLink (identifier source (token_at 0 l)))

-- `[` and a key, behind `super` too
abbrev pub key_step : List Phrase → Phrase
key_step l = phrase.Step (step.IndexLink (expression_at 1 l))

-- `(` and arguments, behind `super` too
abbrev pub call_step : List Phrase → Phrase
call_step l = phrase.Step (step.CallLink (arguments_of (behind 1 l)))
