-- What statements become of their statements and expressions.
use Rattle.std.proofs.Common.{◌≡◌, ℕ, suc, true, false, List, [], ◌∷◌, ◌++◌, Option, Some, None, refl, sym, subst}
use Rattle.lava_base.specs.declared.place.Place.{Place}
use Rattle.js_lexer.specs.declared.keywords.Keyword.TheVariants as keyword
use Rattle.js_lexer.specs.declared.token.TokenKind.{TokenKind}
use Rattle.js_lexer.specs.declared.token.TokenKind.TheVariants as token
use Rattle.js_tree.specs.Layers.{ForInitLayer, ForTargetLayer, StmtLayer}
use Rattle.js_tree.specs.declared.tree.Argument.TheOpen.{ForInit-F, ForTarget-F, Stmt-F}
use Rattle.js_tree.specs.declared.tree.Catch.{roll-Catch, out-roll-Catch}
use Rattle.js_tree.specs.declared.tree.Clause.{Clause, out-roll-Clause}
use Rattle.js_tree.specs.declared.tree.Declaration.{Declaration, out-Declaration}
use Rattle.js_tree.specs.declared.tree.Expr.{Expr}
use Rattle.js_tree.specs.declared.tree.ForInit.{ForInit, out-ForInit}
use Rattle.js_tree.specs.declared.tree.ForInit.TheVariants as init
use Rattle.js_tree.specs.declared.tree.ForTarget.{ForTarget, out-ForTarget}
use Rattle.js_tree.specs.declared.tree.ForTarget.TheVariants as for_target
use Rattle.js_tree.specs.declared.tree.Identifier.{Identifier}
use Rattle.js_tree.specs.declared.tree.Pattern.{Pattern}
use Rattle.js_tree.specs.declared.tree.PatternElement.{PatternElement}
use Rattle.js_tree.specs.declared.tree.Stmt.{Stmt, out-Stmt}
use Rattle.js_tree.specs.declared.tree.Stmt.TheVariants as stmt
use Rattle.js_names.specs.Lists.{flat, from_option}
use Rattle.js_phrase.specs.Lists.{clause_of, clauses_of, listed_statement, statement_list}
use Rattle.js_phrase.specs.Phrases.{block_of, for_init_of, head_of, no_name, optional_expression_of, optional_name_of, parenthesized, statement_of, tail_of}
use Rattle.js_phrase.specs.declared.phrase.ForHead.{ForHead}
use Rattle.js_phrase.specs.declared.phrase.ForHead.TheVariants as head
use Rattle.js_phrase.specs.declared.phrase.Phrase.{Phrase}
use Rattle.js_phrase.specs.declared.phrase.Phrase.TheVariants as phrase
use Rattle.js_cover.specs.Targets.{first_bound, for_target_of, target_of}
use Rattle.js_expr.specs.Parts.{behind, expression_at, part, token_at}
use Rattle.js_stmt.specs.Branches.{if_else_statement, if_statement, with_alternate_at}
use Rattle.js_stmt.specs.ForHeads.{for_in, for_of, for_with_init, for_without_init}
use Rattle.js_stmt.specs.Jumps.{break_or_continue, jump, return_statement, throw_statement}
use Rattle.js_stmt.specs.Labels.{labelled_statement}
use Rattle.js_stmt.specs.Loops.{do_while_statement, for_statement, loop_with, while_statement}
use Rattle.js_stmt.specs.Statements.{block, debugger_statement, empty_statement, expression_statement}
use Rattle.js_stmt.specs.Switches.{case_clause, clause, default_clause, switch_statement}
use Rattle.js_stmt.specs.Tries.{catch_clause, finally_clause, handler_with, try_statement}
use Rattle.js_walk.specs.Parts as walk
use Rattle.js_walk.specs.Parts.{BlockPart, CatchPart, ExpressionPart, LoopPart, PatternPart, StatementPart}
use Rattle.js_program_laws.specs.Formed.{All, Sits, statement_formed}
use Rattle.js_program_laws.proofs.Fits.{Fit, deeper, down, down2, down3, gathered, join, made, spread, statement_by}
use Rattle.js_program_laws.proofs.Phrases.{AllGood, ExprGood, Good, HeadGood, RestGood, TailGood, TargetAt, TargetGood, behind_good, block_good, bound_good, optional_good, optional_pattern_good, part_good, statement_good, tail_good}
use Rattle.js_program_laws.proofs.Expressions.{at, more}
use Rattle.js_program_laws.proofs.Covered.{target_of_good}

pub deep_statement : (b : ℕ) (s : Stmt) (l : StmtLayer) → out-Stmt s ≡ l → statement_formed l ≡ true → Fit (suc b) (walk.statement_parts_at l) → Sits (more b) (StatementPart s)
deep_statement b s l k f h = statement_by (suc (suc (suc (suc b)))) s l k f (down3 (suc b) (walk.statement_parts_at l) h)

pub deep2_statement : (b : ℕ) (s : Stmt) (l : StmtLayer) → out-Stmt s ≡ l → statement_formed l ≡ true → Fit (suc (suc b)) (walk.statement_parts_at l) → Sits (more b) (StatementPart s)
deep2_statement b s l k f h = statement_by (suc (suc (suc (suc b)))) s l k f (down2 (suc (suc b)) (walk.statement_parts_at l) h)

pub deep3_statement : (b : ℕ) (s : Stmt) (l : StmtLayer) → out-Stmt s ≡ l → statement_formed l ≡ true → Fit (suc (suc (suc b))) (walk.statement_parts_at l) → Sits (more b) (StatementPart s)
deep3_statement b s l k f h = statement_by (suc (suc (suc (suc b)))) s l k f (down (suc (suc (suc b))) (walk.statement_parts_at l) h)

up : (b : ℕ) (e : Expr) → ExprGood (suc b) e → ExprGood (suc (suc b)) e
up b e h = deeper (suc b) (ExpressionPart e) h

stmt_at : (b : ℕ) (i : ℕ) (l : List Phrase) → AllGood (suc b) l → Sits (suc b) (StatementPart (statement_of (part i l)))
stmt_at b i l h = statement_good b (part i l) (part_good (suc b) i l h)

-- BLOCKS

listed_good : (n : ℕ) (p : Phrase) → Good n p → All (λ s. Fit n (walk.statement s)) (listed_statement p)
listed_good n (phrase.Statement s) h = ((h, tt), tt)
listed_good n _ h = tt

pub statement_list_good : (n : ℕ) (l : List Phrase) → AllGood n l → Fit n (flat walk.statement (statement_list l))
statement_list_good n l h = spread n walk.statement (statement_list l) (made (Good n) (λ s. Fit n (walk.statement s)) listed_statement l (listed_good n) h)

block_sits : (n : ℕ) (l : List Stmt) → Fit n (flat walk.statement l) → Sits (suc n) (BlockPart l)
block_sits n l h = (refl, h)

pub block_form : (b : ℕ) (l : List Phrase) → AllGood (suc b) l → Good (more b) (block l)
block_form b l h = deep2_statement b _ _ (stmt.outs-Block _ (statement_list (behind 1 l))) refl (block_sits (suc b) (statement_list (behind 1 l)) (statement_list_good (suc b) (behind 1 l) (behind_good (suc b) 1 l h)), tt)

pub empty_good : (b : ℕ) (l : List Phrase) → Good (more b) (empty_statement l)
empty_good b l = deep_statement b _ _ (stmt.outs-Empty _) refl tt

pub debugger_good : (b : ℕ) (l : List Phrase) → Good (more b) (debugger_statement l)
debugger_good b l = deep_statement b _ _ (stmt.outs-Debugger _) refl tt

pub expression_statement_good : (b : ℕ) (l : List Phrase) → AllGood (suc b) l → Good (more b) (expression_statement l)
expression_statement_good b l h = deep_statement b _ _ (stmt.outs-Expression _) refl (at b 0 l h, tt)

-- BRANCHES

pub if_good : (b : ℕ) (l : List Phrase) → AllGood (suc b) l → Good (more b) (if_statement l)
if_good b l h = deep_statement b _ _ (stmt.outs-If _ _ _ None) refl (at b 2 l h, (stmt_at b 4 l h, tt))

-- an `else` stands one level deeper than the `if` that it follows
with_else : (n : ℕ) (s e : Stmt) (x : StmtLayer) → Sits (suc n) (StatementPart s) → Sits n (StatementPart e) → Fit n (walk.statement_parts_at x) → Sits (suc n) (StatementPart (with_alternate_at s x e))
with_else n s e (Stmt-F.If place t c alternate) h y under = statement_by n _ _ (stmt.outs-If place t c (Some e)) refl (under.0, (under.1.0, (y, tt)))
with_else n s e _ h y under = h

pub if_else_good : (b : ℕ) (l : List Phrase) → Sits (more b) (StatementPart (statement_of (part 0 l))) → Good (suc b) (part 2 l) → Good (more b) (if_else_statement l)
if_else_good b l h k =
    with_else (suc (suc (suc (suc b)))) (statement_of (part 0 l)) (statement_of (part 2 l)) (out-Stmt (statement_of (part 0 l))) h
    (down3 (suc b) (StatementPart (statement_of (part 2 l)) ∷ []) (statement_good b (part 2 l) k, tt)).0 h.1

-- LOOPS

loop_sits : (n : ℕ) (s : Stmt) → Sits n (StatementPart s) → Sits (suc n) (LoopPart s)
loop_sits n s h = (refl, (h, tt))

pub while_good : (b : ℕ) (l : List Phrase) → AllGood (suc b) l → Good (more b) (while_statement l)
while_good b l h = deep2_statement b _ _ (stmt.outs-While _ _ _) refl (up b (expression_at 2 l) (at b 2 l h), (loop_sits (suc b) (statement_of (part 4 l)) (stmt_at b 4 l h), tt))

pub do_while_good : (b : ℕ) (l : List Phrase) → AllGood (suc b) l → Good (more b) (do_while_statement l)
do_while_good b l h = deep2_statement b _ _ (stmt.outs-DoWhile _ _ _) refl (loop_sits (suc b) (statement_of (part 1 l)) (stmt_at b 1 l h), (up b (expression_at 4 l) (at b 4 l h), tt))

head_good : (b : ℕ) (p : Phrase) → Good (suc b) p → HeadGood (suc b) (head_of p)
head_good b (phrase.Head h) x = x
head_good b _ x = (subst (λ y. Fit (suc b) (walk.for_init_at y)) (sym init.outs-NoInit) tt, tt, tt)

each_layer : (b : ℕ) (t : ForTarget) (x : ForTargetLayer) (e : Expr) (s : Stmt) → TargetAt (suc b) x → ExprGood (suc b) e → Sits (suc b) (StatementPart s) → Fit (suc (suc (suc b))) (walk.for_each_at x e s)
each_layer b t (ForTarget-F.ForBinding k p) e s h y z =
    ((refl, (h, tt)), (deeper (suc (suc b)) (ExpressionPart e) (up b e y), ((refl, (loop_sits (suc b) s z, tt)), tt)))
each_layer b t (ForTarget-F.ForAssignment p) e s h y z =
    (deeper (suc (suc b)) (PatternPart true p) h, (deeper (suc (suc b)) (ExpressionPart e) (up b e y), (deeper (suc (suc b)) (LoopPart s) (loop_sits (suc b) s z), tt)))

loop_good : (b : ℕ) (place : Place) (x : ForHead) (s : Stmt) → HeadGood (suc b) x → Sits (suc b) (StatementPart s) → Sits (more b) (StatementPart (loop_with place x s))
loop_good b place (head.Loop i t u) s h y = deep2_statement b _ _ (stmt.outs-For place i t u s) refl
    (join (suc (suc b)) (walk.for_init i) (from_option walk.operand t ++ (from_option walk.operand u ++ LoopPart s ∷ [])) (down (suc b) (walk.for_init i) h.0)
    (join (suc (suc b)) (from_option walk.operand t) (from_option walk.operand u ++ LoopPart s ∷ []) (down (suc b) (from_option walk.operand t) h.1)
    (join (suc (suc b)) (from_option walk.operand u) (LoopPart s ∷ []) (down (suc b) (from_option walk.operand u) h.2) (loop_sits (suc b) s y, tt))))
loop_good b place (head.Of t e) s h y = deep3_statement b _ _ (stmt.outs-ForOf place t e s) refl (each_layer b t (out-ForTarget t) e s h.0 h.1 y)
loop_good b place (head.In t e) s h y = deep3_statement b _ _ (stmt.outs-ForIn place t e s) refl (each_layer b t (out-ForTarget t) e s h.0 h.1 y)

pub for_good : (b : ℕ) (l : List Phrase) → AllGood (suc b) l → Good (more b) (for_statement l)
for_good b l h = loop_good b (token_at 0 l).start (head_of (part 2 l)) (statement_of (part 4 l)) (head_good b (part 2 l) (part_good (suc b) 2 l h)) (stmt_at b 4 l h)

-- HEADS OF LOOPS

init_by : (n : ℕ) (i : ForInit) (l : ForInitLayer) → out-ForInit i ≡ l → Fit n (walk.for_init_at l) → Fit n (walk.for_init i)
init_by n i l k h = subst (λ x. Fit n (walk.for_init_at x)) (sym k) h

init_good : (n : ℕ) (p : Phrase) → Good n p → Fit n (walk.for_init (for_init_of p))
init_good n (phrase.Declaration d) h = init_by n _ _ (init.outs-InitDeclaration d) h
init_good n (phrase.Expression e) h = init_by n _ _ (init.outs-InitExpression e) (h, tt)
init_good n (phrase.Covered c) h = init_by n _ _ (init.outs-InitExpression (parenthesized c)) (h.0, tt)
init_good n _ h = init_by n _ ForInit-F.NoInit init.outs-NoInit tt

opt_at : (n : ℕ) (i : ℕ) (l : List Phrase) → AllGood n l → Fit n (from_option walk.operand (optional_expression_of (part i l)))
opt_at n i l h = optional_good n (part i l) (part_good n i l h)

pub for_without_good : (n : ℕ) (l : List Phrase) → AllGood n l → Good n (for_without_init l)
for_without_good n l h = (init_by n _ ForInit-F.NoInit init.outs-NoInit tt, opt_at n 1 l h, opt_at n 3 l h)

pub for_with_good : (n : ℕ) (l : List Phrase) → AllGood n l → Good n (for_with_init l)
for_with_good n l h = (init_good n (part 0 l) (part_good n 0 l h), opt_at n 2 l h, opt_at n 4 l h)

first_good : (b : ℕ) (l : List PatternElement) → Fit (suc b) (flat (walk.element false) l) → Sits (suc b) (PatternPart false (first_bound l))
first_good b [] h = bound_good b false no_name
first_good b (x ∷ l) h = h.0

target_by : (n : ℕ) (t : ForTarget) (l : ForTargetLayer) → out-ForTarget t ≡ l → TargetAt n l → TargetGood n t
target_by n t l k h = subst (TargetAt n) (sym k) h

for_target_good : (b : ℕ) (p : Phrase) → Good (suc b) p → TargetGood (suc b) (for_target_of p)
for_target_good b (phrase.Declaration d) h =
    target_by (suc b) _ _ (for_target.outs-ForBinding _ _) (deeper (suc b) (PatternPart false (first_bound (out-Declaration d).declarators)) (first_good b (out-Declaration d).declarators h))
for_target_good b p h = target_by (suc b) _ _ (for_target.outs-ForAssignment (target_of p)) (target_of_good b p h)

pub for_of_good : (b : ℕ) (l : List Phrase) → AllGood (suc b) l → Good (suc b) (for_of l)
for_of_good b l h = (for_target_good b (part 0 l) (part_good (suc b) 0 l h), at b 2 l h)

pub for_in_good : (b : ℕ) (l : List Phrase) → AllGood (suc b) l → Good (suc b) (for_in l)
for_in_good b l h = (for_target_good b (part 0 l) (part_good (suc b) 0 l h), at b 2 l h)

-- JUMPS AND LABELS

jump_good : (b : ℕ) (place : Place) (k : TokenKind) (i : Option Identifier) → Sits (more b) (StatementPart (jump place k i))
jump_good b place (token.Keyword keyword.Continue) i = deep_statement b _ _ (stmt.outs-Continue place i) refl tt
jump_good b place _ i = deep_statement b _ _ (stmt.outs-Break place i) refl tt

pub break_good : (b : ℕ) (l : List Phrase) → Good (more b) (break_or_continue l)
break_good b l = jump_good b (token_at 0 l).start (token_at 0 l).kind (optional_name_of (part 1 l))

pub return_good : (b : ℕ) (l : List Phrase) → AllGood (suc b) l → Good (more b) (return_statement l)
return_good b l h = deep_statement b _ _ (stmt.outs-Return _ _) refl (opt_at (suc b) 1 l h)

pub throw_good : (b : ℕ) (l : List Phrase) → AllGood (suc b) l → Good (more b) (throw_statement l)
throw_good b l h = deep_statement b _ _ (stmt.outs-Throw _ _) refl (at b 1 l h, tt)

pub labelled_good : (source : List ℕ) (b : ℕ) (l : List Phrase) → AllGood (suc b) l → Good (more b) (labelled_statement source l)
labelled_good source b l h = deep_statement b _ _ (stmt.outs-Labelled _ _) refl (stmt_at b 2 l h, tt)

-- SWITCHES

clause_fits : (n : ℕ) (t : Option Expr) (l : List Stmt) → Fit n (from_option walk.operand t) → Fit n (flat walk.statement l) → Fit n (walk.clause (clause t l))
clause_fits n t l x y =
    subst (λ r. Fit n (from_option walk.operand r.test ++ flat walk.statement r.body)) (sym (out-roll-Clause (record { test = t; body = l }))) (join n (from_option walk.operand t) (flat walk.statement l) x y)

listed_clause : (n : ℕ) (p : Phrase) → Good n p → All (λ c. Fit n (walk.clause c)) (clause_of p)
listed_clause n (phrase.Clause c) h = (h, tt)
listed_clause n (phrase.Clauses l) h = gathered n walk.clause l h
listed_clause n _ h = tt

clauses_good : (n : ℕ) (l : List Phrase) → AllGood n l → Fit n (flat walk.clause (clauses_of l))
clauses_good n l h = spread n walk.clause (clauses_of l) (made (Good n) (λ c. Fit n (walk.clause c)) clause_of l (listed_clause n) h)

pub case_good : (b : ℕ) (l : List Phrase) → AllGood (suc b) l → Good (suc b) (case_clause l)
case_good b l h = clause_fits (suc b) (Some (expression_at 1 l)) (statement_list (behind 2 l)) (at b 1 l h, tt) (statement_list_good (suc b) (behind 2 l) (behind_good (suc b) 2 l h))

pub default_clause_good : (n : ℕ) (l : List Phrase) → AllGood n l → Good n (default_clause l)
default_clause_good n l h = join n (walk.clause (clause None (statement_list l))) (flat walk.clause (clauses_of l)) (clause_fits n None (statement_list l) tt (statement_list_good n l h)) (clauses_good n l h)

pub switch_good : (b : ℕ) (l : List Phrase) → AllGood (suc b) l → Good (more b) (switch_statement l)
switch_good b l h = deep2_statement b _ _ (stmt.outs-Switch _ _ _) refl (up b (expression_at 2 l) (at b 2 l h), ((refl, clauses_good (suc b) (behind 3 l) (behind_good (suc b) 3 l h)), tt))

-- TRIES

pub finally_good : (b : ℕ) (l : List Phrase) → AllGood (suc b) l → Good (suc b) (finally_clause l)
finally_good b l h = (tt, tt, block_good b (part 1 l) (part_good (suc b) 1 l h))

pub catch_good : (b : ℕ) (l : List Phrase) → AllGood (suc b) l → Good (suc b) (catch_clause l)
catch_good b l h =
    (optional_pattern_good b (part 1 l) (part_good (suc b) 1 l h), block_good b (part 2 l) (part_good (suc b) 2 l h), (tail_good (suc b) (part 3 l) (part_good (suc b) 3 l h)).2)

catch_sits : (n : ℕ) (p : Option Pattern) (l : List Stmt) → RestGood (suc n) p → Fit n (flat walk.statement l) → Sits (suc (suc n)) (CatchPart (roll-Catch (record { parameter = p; body = l })))
catch_sits n p l x y = (
  refl,
  subst (λ r. Fit (suc n) (from_option (walk.pattern false) r.parameter ++ walk.block r.body)) (sym (out-roll-Catch (record { parameter = p; body = l })))
      (join (suc n) (from_option (walk.pattern false) p) (walk.block l) x (block_sits n l y, tt)),
)

handler_fits : (b : ℕ) (p : Option Pattern) (o : Option (List Stmt)) → RestGood (suc b) p → Fit (suc b) (from_option (flat walk.statement) o) → Fit (suc (suc (suc b))) (from_option walk.handler (handler_with p o))
handler_fits b p None x y = tt
handler_fits b p (Some l) x y = (catch_sits (suc b) p l (down (suc b) (from_option (walk.pattern false) p) x) y, tt)

finalizer_fits : (b : ℕ) (o : Option (List Stmt)) → Fit (suc b) (from_option (flat walk.statement) o) → Fit (suc (suc (suc b))) (from_option walk.block o)
finalizer_fits b None y = tt
finalizer_fits b (Some l) y = (deeper (suc (suc b)) (BlockPart l) (block_sits (suc b) l y), tt)

pub try_good : (b : ℕ) (l : List Phrase) → AllGood (suc b) l → Good (more b) (try_statement l)
try_good b l h =
    let t : TailGood (suc b) (tail_of (part 2 l)) = tail_good (suc b) (part 2 l) (part_good (suc b) 2 l h) in
    deep3_statement b _ _ (stmt.outs-Try _ (block_of (part 1 l)) (handler_with (tail_of (part 2 l)).parameter (tail_of (part 2 l)).handler) (tail_of (part 2 l)).finalizer) refl (
      deeper (suc (suc b)) (BlockPart (block_of (part 1 l))) (block_sits (suc b) (block_of (part 1 l)) (block_good b (part 1 l) (part_good (suc b) 1 l h))),
      join (suc (suc (suc b))) (from_option walk.handler (handler_with (tail_of (part 2 l)).parameter (tail_of (part 2 l)).handler)) (from_option walk.block (tail_of (part 2 l)).finalizer)
          (handler_fits b (tail_of (part 2 l)).parameter (tail_of (part 2 l)).handler t.0 t.1) (finalizer_fits b (tail_of (part 2 l)).finalizer t.2),
    )
