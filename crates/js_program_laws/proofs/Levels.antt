-- The tree of a source is formed, and no deeper than four parts for each of its levels.
use Rattle.std.proofs.Common.{◌≡◌, ◌≤◌, ◌+◌, ◌-◌, ℕ, zero, suc, Bool, true, false, List, [], ◌∷◌, ◌⊎◌, inl, inr, refl, sym, ap, subst, ◌∙◌, arith}
use Rattle.js_grammar.specs.Grammar.{Tree, Leaf, Node, Absent, Row, Nil, Then}
use Rattle.js_grammar.specs.Levels.{Low, Lows, cost_of, step_of}
use Rattle.js_grammar.specs.Table.{lead_levels_of, levels_of}
use Rattle.js_grammar.specs.declared.lexeme.Lexeme.{Lexeme}
use Rattle.js_grammar.specs.declared.nesting.TheConstants.{MAX_LEVELS}
use Rattle.js_grammar.specs.declared.symbols.Production.{Production}
use Rattle.js_grammar.specs.declared.symbols.Production.TheVariants as production
use Rattle.js_lexer.specs.declared.token.Token.{Token}
use Rattle.js_tree.specs.declared.tree.Argument.TheOpen.{Expr-F, Stmt-F}
use Rattle.js_tree.specs.declared.tree.Expr.{Expr, out-Expr}
use Rattle.js_tree.specs.declared.tree.Expr.TheVariants as expr
use Rattle.js_tree.specs.declared.tree.Argument.{Argument}
use Rattle.js_tree.specs.declared.tree.Module.{Module}
use Rattle.js_tree.specs.declared.tree.SourceKind.{SourceKind}
use Rattle.js_tree.specs.declared.tree.Stmt.{Stmt, out-Stmt}
use Rattle.js_tree.specs.declared.tree.Stmt.TheVariants as stmt
use Rattle.js_phrase.specs.Lists.{arguments_of}
use Rattle.js_phrase.specs.Phrases.{no_expression, statement_of}
use Rattle.js_phrase.specs.declared.phrase.Phrase.{Phrase}
use Rattle.js_phrase.specs.declared.phrase.Phrase.TheVariants as phrase
use Rattle.js_phrase.specs.declared.places.TheConstants.{NO_PLACE}
use Rattle.js_parser.specs.Forms.{binding_form, class_form, form, part_form}
use Rattle.js_parser.specs.Trees.{module_of, phrase_of, phrases_of}
use Rattle.js_expr.specs.News.{new_with_arguments, with_arguments_at}
use Rattle.js_expr.specs.Parts.{behind, part}
use Rattle.js_stmt.specs.Branches.{if_else_statement, with_alternate_at}
use Rattle.js_walk.specs.Parts.{TreePart, ModulePart, StatementPart}
use Rattle.js_early.specs.declared.early.TheConstants.{WALK_DEPTH}
use Rattle.js_program_laws.specs.Formed.{IsFormed, IsFormed_to, Sits}
use Rattle.js_program_laws.proofs.Fits.{deeper}
use Rattle.js_program_laws.proofs.Phrases.{AllGood, ExprGood, Good, behind_good, expression_good, part_good, statement_good, statements_good, this_good}
use Rattle.js_program_laws.proofs.Expressions.{more}
use Rattle.js_program_laws.proofs.Blocks.{if_else_good}
use Rattle.js_program_laws.proofs.Members.{new_with_good}
use Rattle.js_program_laws.proofs.Forms.{form_good, under}

-- how deep what stands within so many levels may be
abbrev pub room : ℕ → ℕ
room b = suc (under b zero)

under_sum : (k b : ℕ) → under k (under b zero) ≡ under (k + b) zero
under_sum zero b = let same : b ≡ 0 + b = omega arith in ap (λ j. under j zero) same
under_sum (suc k) b = let same : suc (k + b) ≡ suc k + b = omega arith in ap (λ j. suc (suc (suc (suc j)))) (under_sum k b) ∙ ap (λ j. under j zero) same

-- TREES

abbrev Holds : (Tree → Type 0) → Row → Type 0
Holds P Nil = Unit {0}
Holds P (Then r x) = Holds P r × P x

module _ (P : Tree → Type 0) (leaf : (t : Lexeme) → P (Leaf t)) (absent : P Absent) (node : (f : Production) (r : Row) → Holds P r → P (Node f r)) where
  rows_hold : (r : Row) → Holds P r
  rows_hold Nil = tt
  rows_hold (Then r (Leaf t)) = (rows_hold r, leaf t)
  rows_hold (Then r Absent) = (rows_hold r, absent)
  rows_hold (Then r (Node f q)) = (rows_hold r, node f q (rows_hold q))

-- STEPS

not_so : false ≡ true → ⊥
not_so h = cc

so_not : true ≡ false → ⊥
so_not h = cc

step_same : (f : Production) → lead_levels_of f ≡ levels_of f → (r : Row) → step_of f r ≡ levels_of f
step_same f h Nil = h
step_same f h (Then r (Leaf t)) = step_same f h r
step_same f h (Then r (Node g q)) = refl
step_same f h (Then r Absent) = step_same f h r

has_node : Row → Bool
has_node Nil = false
has_node (Then r (Leaf t)) = has_node r
has_node (Then r (Node f q)) = true
has_node (Then r Absent) = has_node r

step_first : (f : Production) (r : Row) → has_node r ≡ false → step_of f r ≡ lead_levels_of f
unfolding has_node
step_first f Nil h = refl
step_first f (Then r (Leaf t)) h = step_first f r h
step_first f (Then r (Node g q)) h = absurd (so_not h)
step_first f (Then r Absent) h = step_first f r h

step_later : (f : Production) (r : Row) → has_node r ≡ true → step_of f r ≡ levels_of f
unfolding has_node
step_later f Nil h = absurd (not_so h)
step_later f (Then r (Leaf t)) h = step_later f r h
step_later f (Then r (Node g q)) h = refl
step_later f (Then r Absent) h = step_later f r h

-- productions whose first part stands less deep
is_lead : Production → Bool
is_lead production.IfElseStatement = true
is_lead production.NewWithArguments = true
is_lead _ = false

other_lead : (f : Production) → is_lead f ≡ false → lead_levels_of f ≡ levels_of f
unfolding is_lead lead_levels_of
other_lead production.IfElseStatement h = absurd (so_not h)
other_lead production.NewWithArguments h = absurd (so_not h)
other_lead _ h = refl

-- WHAT STANDS BEFORE THE FIRST PART

abbrev IsPlain : Phrase → Type 0
IsPlain phrase.Absent = Unit {0}
IsPlain (phrase.Token t) = Unit {0}
IsPlain _ = ⊥

-- tokens, a part that ends within n parts, and others that end within k
abbrev Leads : ℕ → ℕ → List Phrase → Type 0
Leads n k [] = Unit {0}
Leads n k (x ∷ l) = (IsPlain x × Leads n k l) ⊎ (Good n x × AllGood k l)

none_else : (n : ℕ) (s e : Stmt) → out-Stmt s ≡ Stmt-F.Empty NO_PLACE → Sits n (StatementPart s) → Sits n (StatementPart (with_alternate_at s (out-Stmt s) e))
none_else n s e k h = subst (λ x. Sits n (StatementPart (with_alternate_at s x e))) (sym k) h

plain_if : (d : ℕ) (x : Phrase) (l : List Phrase) → IsPlain x → Good (suc d) (if_else_statement (x ∷ l))
plain_if d phrase.Absent l h = none_else (suc d) (statement_of phrase.Absent) (statement_of (part 1 l)) (stmt.outs-Empty NO_PLACE) (statement_good d phrase.Absent tt)
plain_if d (phrase.Token t) l h = none_else (suc d) (statement_of (phrase.Token t)) (statement_of (part 1 l)) (stmt.outs-Empty NO_PLACE) (statement_good d (phrase.Token t) tt)
plain_if d _ l h = absurd h

lead_if : (d : ℕ) (l : List Phrase) → Leads (more d) (suc d) l → Good (more d) (if_else_statement l)
lead_if d [] h = if_else_good d [] (statement_good (suc (suc (suc (suc d)))) phrase.Absent tt) tt
lead_if d (x ∷ l) (inl h) = plain_if (suc (suc (suc (suc d)))) x l h.0
lead_if d (x ∷ l) (inr h) = if_else_good d (x ∷ l) (statement_good (suc (suc (suc (suc d)))) x h.0) (part_good (suc d) 1 l h.1)

none_given : (n : ℕ) (e : Expr) (l : List Argument) → out-Expr e ≡ Expr-F.This NO_PLACE → ExprGood n e → ExprGood n (with_arguments_at e l (out-Expr e))
none_given n e l k h = subst (λ x. ExprGood n (with_arguments_at e l x)) (sym k) h

plain_new : (d : ℕ) (x : Phrase) (l : List Phrase) → IsPlain x → Good (suc d) (new_with_arguments (x ∷ l))
plain_new d phrase.Absent l h = none_given (suc d) no_expression (arguments_of (behind 1 l)) (expr.outs-This NO_PLACE) (this_good d)
plain_new d (phrase.Token t) l h = none_given (suc d) no_expression (arguments_of (behind 1 l)) (expr.outs-This NO_PLACE) (this_good d)
plain_new d _ l h = absurd h

lead_new : (d : ℕ) (l : List Phrase) → Leads (more d) (suc d) l → Good (more d) (new_with_arguments l)
lead_new d [] h = new_with_good d [] (expression_good (suc (suc (suc (suc d)))) phrase.Absent tt) tt
lead_new d (x ∷ l) (inl h) = plain_new (suc (suc (suc (suc d)))) x l h.0
lead_new d (x ∷ l) (inr h) = new_with_good d (x ∷ l) (expression_good (suc (suc (suc (suc d)))) x h.0) (behind_good (suc d) 1 l h.1)

-- LEVELS

split_levels : (a k n b : ℕ) → a + k ≤ n → n ≡ a + b → k + (b - k) ≡ b
split_levels a k n b h e = omega arith

split_rest : (a k n b : ℕ) → a + k ≤ n → n ≡ a + b → n ≡ (a + k) + (b - k)
split_rest a k n b h e = omega arith

at_lead : (a k n b : ℕ) → k ≡ 0 → n ≡ a + b → n ≡ (a + k) + b
at_lead a k n b z e = omega arith

one_less : (a n b : ℕ) → a + 1 ≤ n → n ≡ a + b → b ≡ suc (b - 1)
one_less a n b h e = omega arith

module _ (source : List ℕ) (tokens : List Token) where
  -- a tree that stands below a levels and ends within n, which are b more
  abbrev TreeGood : Tree → Type 0
  TreeGood x = (a n b : ℕ) → Low cost_of step_of a n x → n ≡ a + b → Good (room b) (phrase_of source tokens x)

  parts_good : (f : Production) (same : (r : Row) → step_of f r ≡ levels_of f) (a n b : ℕ) → n ≡ (a + levels_of f) + b → (r : Row) (later : List Phrase) → Holds TreeGood r → Lows cost_of step_of f a n r → AllGood (room b) later → AllGood (room b) (phrases_of source tokens r later)
  parts_good f same a n b e Nil later h low y = y
  parts_good f same a n b e (Then r x) later h low y =
      parts_good f same a n b e r (phrase_of source tokens x ∷ later) h.0 low.0
      (h.1 (a + levels_of f) n b (subst (λ j. Low cost_of step_of (a + j) n x) (same r) low.1) e, y)

  lead_parts : (f : Production) (z : lead_levels_of f ≡ 0) (a n b c : ℕ) → n ≡ a + b → n ≡ (a + levels_of f) + c → (r : Row) (later : List Phrase) → Holds TreeGood r → Lows cost_of step_of f a n r
      → (has_node r ≡ true → AllGood (room c) later) → (has_node r ≡ false → Leads (room b) (room c) later) → Leads (room b) (room c) (phrases_of source tokens r later)
  unfolding has_node
  lead_parts f z a n b c e k Nil later h low y w = w refl
  lead_parts f z a n b c e k (Then r (Leaf t)) later h low y w = lead_parts f z a n b c e k r (phrase_of source tokens (Leaf t) ∷ later) h.0 low.0 (λ q. (tt, y q)) (λ q. inl (tt, w q))
  lead_parts f z a n b c e k (Then r Absent) later h low y w = lead_parts f z a n b c e k r (phrase_of source tokens Absent ∷ later) h.0 low.0 (λ q. (tt, y q)) (λ q. inl (tt, w q))
  lead_parts f z a n b c e k (Then r (Node g q)) later h low y w =
      lead_parts f z a n b c e k r (phrase_of source tokens (Node g q) ∷ later) h.0 low.0
      (λ p. (h.1 (a + levels_of f) n c (subst (λ j. Low cost_of step_of (a + j) n (Node g q)) (step_later f r p) low.1) k, y refl))
      (λ p. inr (h.1 (a + lead_levels_of f) n b (subst (λ j. Low cost_of step_of (a + j) n (Node g q)) (step_first f r p) low.1) (at_lead a (lead_levels_of f) n b z e), y refl))

  plain_node : (f : Production) (r : Row) → lead_levels_of f ≡ levels_of f → Holds TreeGood r → TreeGood (Node f r)
  plain_node f r same h a n b low e =
      let deep : suc (under (levels_of f) (under (b - levels_of f) zero)) ≡ room b =
      ap suc (under_sum (levels_of f) (b - levels_of f) ∙ ap (λ j. under j zero) (split_levels a (levels_of f) n b low.0 e)) in
      subst (λ j. Good j (form source f (phrases_of source tokens r []))) deep
      (form_good source f (under (b - levels_of f) zero) (phrases_of source tokens r [])
      (parts_good f (step_same f same) a n (b - levels_of f) (split_rest a (levels_of f) n b low.0 e) r [] h low.1 tt))

  leads_of : (f : Production) (r : Row) → lead_levels_of f ≡ 0 → levels_of f ≡ 1 → Holds TreeGood r → (a n b : ℕ) → Low cost_of step_of a n (Node f r) → n ≡ a + b
      → Leads (more (under (b - 1) zero)) (suc (under (b - 1) zero)) (phrases_of source tokens r [])
  leads_of f r z k h a n b low e =
      let cost : a + 1 ≤ n = subst (λ j. a + j ≤ n) k low.0 in
      let more_one : b ≡ suc (b - 1) = one_less a n b cost e in
      let rest : n ≡ (a + levels_of f) + (b - 1) = subst (λ j. n ≡ (a + j) + (b - 1)) (sym k) (split_rest a 1 n b cost e) in
      subst (λ j. Leads j (room (b - 1)) (phrases_of source tokens r [])) (ap room more_one)
      (lead_parts f z a n b (b - 1) e rest r [] h low.1 (λ q. tt) (λ q. tt))

  lead_deep : (f : Production) (r : Row) → levels_of f ≡ 1 → (a n b : ℕ) → Low cost_of step_of a n (Node f r) → n ≡ a + b → room b ≡ more (under (b - 1) zero)
  lead_deep f r k a n b low e = ap room (one_less a n b (subst (λ j. a + j ≤ n) k low.0) e)

  lead_node : (f : Production) → is_lead f ≡ true → (r : Row) → Holds TreeGood r → TreeGood (Node f r)
  unfolding is_lead lead_levels_of levels_of form part_form binding_form class_form
  lead_node production.IfElseStatement is r h a n b low e =
      subst (λ j. Good j (if_else_statement (phrases_of source tokens r []))) (sym (lead_deep production.IfElseStatement r refl a n b low e))
      (lead_if (under (b - 1) zero) (phrases_of source tokens r []) (leads_of production.IfElseStatement r refl refl h a n b low e))
  lead_node production.NewWithArguments is r h a n b low e =
      subst (λ j. Good j (new_with_arguments (phrases_of source tokens r []))) (sym (lead_deep production.NewWithArguments r refl a n b low e))
      (lead_new (under (b - 1) zero) (phrases_of source tokens r []) (leads_of production.NewWithArguments r refl refl h a n b low e))
  lead_node _ is r h a n b low e = absurd (not_so is)

  node_by : (c : Bool) (f : Production) (r : Row) → is_lead f ≡ c → Holds TreeGood r → TreeGood (Node f r)
  node_by true f r k h = lead_node f k r h
  node_by false f r k h = plain_node f r (other_lead f k) h

  all_good : (r : Row) → Holds TreeGood r
  all_good r = rows_hold TreeGood (λ t a n b low e. tt) (λ a n b low e. tt) (λ f q h. node_by (is_lead f) f q refl h) r

  -- the tree of a module whose parts end within n levels
  module_good : (n : ℕ) (r : Row) → Low cost_of step_of 0 n (Node production.Module r) → Good (room n) (phrase_of source tokens (Node production.Module r))
  module_good n r low = let all : n ≡ 0 + n = omega arith in node_by (is_lead production.Module) production.Module r refl (all_good r) 0 n n low all

raised : (n k : ℕ) (p : TreePart) → Sits n p → Sits (k + n) p
raised n zero p h = let same : n ≡ 0 + n = omega arith in subst (λ j. Sits j p) same h
raised n (suc k) p h = let same : suc (k + n) ≡ suc k + n = omega arith in subst (λ j. Sits j p) same (deeper (k + n) p (raised n k p h))

within : (n d : ℕ) (p : TreePart) → n ≤ d → Sits n p → Sits d p
within n d p le h = let same : (d - n) + n ≡ d = omega arith in subst (λ j. Sits j p) same (raised n (d - n) p h)

formed_within : (kind : SourceKind) (source : List ℕ) (tokens : List Token) (r : Row) (n d : ℕ) → suc (room n) ≤ d → Low cost_of step_of 0 n (Node production.Module r) → IsFormed_to d (module_of kind source tokens r)
unfolding IsFormed_to
formed_within kind source tokens r n d le low =
    within (suc (room n)) d (ModulePart (module_of kind source tokens r)) le
    (refl, statements_good (room n) (phrase_of source tokens (Node production.Module r)) (module_good source tokens n r low))

enough : suc (room MAX_LEVELS) ≤ WALK_DEPTH
enough = let deep : suc (room MAX_LEVELS) ≡ 1026 = refl in let least : 1026 ≤ 1028 = omega arith in subst (λ j. j ≤ WALK_DEPTH) (sym deep) least

pub formed_low : (kind : SourceKind) (source : List ℕ) (tokens : List Token) (r : Row) → Low cost_of step_of 0 MAX_LEVELS (Node production.Module r) → IsFormed (module_of kind source tokens r)
unfolding IsFormed
formed_low kind source tokens r low = formed_within kind source tokens r MAX_LEVELS WALK_DEPTH enough low
