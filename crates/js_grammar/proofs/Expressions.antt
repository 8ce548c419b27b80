-- The reader that begins where an expression is wanted is exact: what it takes has a partial tree, and what the end may follow is an expression.
use Rattle.std.proofs.Common.{◌≡◌, ℕ, ◌+◌, ◌≤◌, Bool, true, false, ◌&&◌, List, [], ◌∷◌, ◌++◌, Option, Some, None, ◌⊎◌, inl, inr, refl, sym, ap, subst, ◌∙◌, arith}
use Rattle.js_grammar.specs.declared.left_out.LeftOut.{LeftOut}
use Rattle.js_grammar.specs.declared.lexeme.Lexeme.{Lexeme}
use Rattle.js_grammar.specs.declared.nesting.TheConstants.{MAX_LEVELS}
use Rattle.js_grammar.specs.declared.symbols.Terminal.{Terminal}
use Rattle.js_grammar.specs.declared.symbols.Terminal.TheVariants as terminal
use Rattle.js_grammar.specs.declared.symbols.Nonterminal.TheVariants as nonterminal
use Rattle.js_grammar.specs.declared.symbols.Production.{Production}
use Rattle.js_grammar.specs.declared.symbols.Production.TheVariants as production
use Rattle.js_grammar.specs.declared.constituents.Terminals.TheVariants.{Is}
use Rattle.js_grammar.specs.declared.constituents.Constituent.TheVariants.{Token, Part}
use Rattle.js_grammar.specs.Grammar.{Tree, Leaf, Node, Absent, Row, Nil, Then, is, led, left, over, only_if, spells, Partial, Open, Within, IsSpelled}
use Rattle.js_grammar.specs.Inserted.{Choice, Nothing, Ending, DoEnding, HasTree, steps}
use Rattle.js_grammar.specs.Inserted as inserted
use Rattle.js_grammar.specs.Levels.{LowPartial, level, Shallow, cost_of, step_of}
use Rattle.js_grammar.specs.Machine.{State, Item, item, complete, feed, feeds}
use Rattle.js_grammar.specs.Table
use Rattle.js_grammar.specs.Nesting
use Rattle.js_grammar.specs.Table.{stands_of, may_of, guard_of}
use Rattle.js_grammar.specs.Fits.{fits_of, grammar, table}
use Rattle.js_grammar.specs.Flat.{Flat, nesting_on}
use Rattle.js_grammar.specs.Laws.{semi, do_semi, rule_stands}
use Rattle.js_grammar.specs.Profile.{counts, no_step, any_form, is_form, is_too_deep, left_out}
use Rattle.js_grammar.specs.Expressions.{HasExpression, BeginsExpression, HasBeginningExpression, HasExpressionWithin, HasLowExpression, Is_right_expression, semicolons_in, is_end, NoEnd, end_mark, from_expression, whole_expression, ReadsExpression, StepsExpression, Expression_tells_deep, Expression_tells_form}
use Rattle.js_grammar.proofs.Sound.{and_true, after_is, held, Asked}
use Rattle.js_grammar.proofs.Calm.{implies, implied, calm_of, calm_partial_of, quiet_of}
use Rattle.js_grammar.proofs.Follows.{reads_partial, reads_tree}
use Rattle.js_grammar.proofs.Places.{terminals}
use Rattle.js_grammar.proofs.Masks
use Rattle.js_grammar.proofs.Computed.{operator_of, closes_of, tables}
use Rattle.js_grammar.proofs.Tame.{all, each_terminal, harmless}
use Rattle.js_grammar.proofs.Entries.{start_opens, wrap_may, fits_leads, way, harmless_wrap, harmless_edge, inside, ending}
use Rattle.js_grammar.proofs.Dangling.{first}
use Rattle.js_grammar.proofs.Exact.{first_of_row, first_of_partial, is_over}
use Rattle.js_grammar.proofs.Ends.{Capped, last_caps, top_end, asked_outer, different}
use Rattle.js_grammar.proofs.Insertion
use Rattle.js_grammar.proofs.Heights.{open_up, open_down}
use Rattle.js_grammar.proofs.Forms.{counts_grow, open_none, open_some}
use Rattle.js_grammar.proofs.Told.{is_less, less_is, reached, was_not, was, source_count, itself}
use Rattle.js_grammar.proofs.Depth.{levels_grow, source_levels, source_steps}
use Rattle.js_grammar.proofs.Rooted.{base_held, fine_own, zip_is, zip_begins}
use Rattle.js_grammar.proofs.Rooted

abbrev Fine : State → List Lexeme → Type 0
Fine q ts = Rooted.Fine table production.Source production.Source nonterminal.Expression (Is terminal.End) q ts

abbrev Over : State → List Lexeme → Type 0
Over q ts = Rooted.Over table production.Source production.Source nonterminal.Expression (Is terminal.End) q ts

expression_may : may_of nonterminal.Expression production.IdentifierReference ≡ true
unfolding tables
expression_may = refl

comes : (ts : List Lexeme) (q : State) → ReadsExpression ts q → (Fine q [] × (held q ≡ ts)) ⊎ Over q ts
comes ts q h = Rooted.feeds_comes table production.Source production.Source nonterminal.Expression (Is terminal.End) start_opens wrap_may ts from_expression q refl h

-- the end is no token
end_all : all (λ k. implies (stands_of (Is terminal.End) k) (is_end k)) terminals ≡ true
unfolding tables is_end
end_all = refl

end_is : (k : Terminal) → stands_of (Is terminal.End) k ≡ true → is_end k ≡ true
end_is k h = implied (stands_of (Is terminal.End) k) (is_end k) (each_terminal (λ k. implies (stands_of (Is terminal.End) k) (is_end k)) end_all k) h

no_end_last : (a : List Lexeme) (t : Lexeme) → NoEnd (a ++ t ∷ []) → is_end t.terminal ≡ false
no_end_last [] t h = h.0
no_end_last (u ∷ a) t h = no_end_last a t h.1

not_over : (q : State) (ts : List Lexeme) → NoEnd ts → Over q ts → ⊥
not_over q ts n o =
    let m : NoEnd (spells o.1 ++ o.2 ∷ []) = subst NoEnd (sym o.6) n in
    let f = no_end_last (spells o.1) o.2 m in
    let t = end_is o.2.terminal o.5 in
    cc

held_partial : (q : State) (ts : List Lexeme) → Fine q [] → held q ≡ ts → HasBeginningExpression ts
held_partial [] ts v e = elim v [ ]
held_partial (i ∷ []) ts v e =
    let none : [] ≡ ts = sym (base_held table production.Source production.Source nonterminal.Expression (Is terminal.End) i v) ∙ e in
    (Open production.IdentifierReference Nil, (expression_may, refl, tt), none)
held_partial (k ∷ j ∷ s) ts v e =
    let p = Open k.production k.done in
    let o = fine_own table production.Source production.Source nonterminal.Expression (Is terminal.End) start_opens wrap_may k j s v in
    (Rooted.zip table production.Source production.Source nonterminal.Expression (Is terminal.End) (j ∷ s) p, zip_is table production.Source production.Source nonterminal.Expression (Is terminal.End) (j ∷ s) p o.1 o.0 (rw v.0 tt), zip_begins table production.Source production.Source nonterminal.Expression (Is terminal.End) (j ∷ s) p (spells k.done) o.1 ∙ e)

-- what is taken has a partial tree
fine_of : (ts : List Lexeme) (q : State) → NoEnd ts → (Fine q [] × (held q ≡ ts)) ⊎ Over q ts → Fine q [] × (held q ≡ ts)
fine_of ts q n (inl f) = f
fine_of ts q n (inr o) = absurd (not_over q ts n o)

pub good : (ts : List Lexeme) (q : State) → NoEnd ts → ReadsExpression ts q → HasBeginningExpression ts
good ts q n h = let f = fine_of ts q n (comes ts q h) in held_partial q ts f.0 f.1

-- and what has one is taken, and stands no deeper than it
exact_low : (cost step : Production → Row → ℕ) (grows : (f : Production) (r : Row) (x : Tree) → cost f r ≤ cost f (Then r x)) (ts : List Lexeme) (h : HasBeginningExpression ts) → (q : State) × ReadsExpression ts q × ((n : ℕ) → Shallow cost step n from_expression → LowPartial cost step (level cost step from_expression) n h.0 → Shallow cost step n q)
exact_low cost step grows ts h =
    let calm = calm_partial_of table operator_of harmless closes_of harmless_wrap (λ c f r t e k. harmless_edge c f r t e k) ending inside first first_of_row first_of_partial h.0 nonterminal.Expression h.1 in
    let m = reads_partial table operator_of may_of cost step grows fits_leads way (λ c f e. e) h.0 production.Source Nil (Part nonterminal.Expression ∷ Token (Is terminal.End) ∷ []) [] nonterminal.Expression refl h.1 calm in
    (m.0, ap (feeds table from_expression) (sym h.2) ∙ m.1, m.2)

no_cost : Production → Row → ℕ
no_cost f r = 0

no_growth : (f : Production) (r : Row) (x : Tree) → no_cost f r ≤ no_cost f (Then r x)
unfolding no_cost
no_growth f r x = omega arith

pub exact : (ts : List Lexeme) → HasBeginningExpression ts → (q : State) × ReadsExpression ts q
exact ts h = let m = exact_low no_cost no_cost no_growth ts h in (m.0, m.1)

-- a tree is read, before what goes on with nothing of it
parts_of : (f : Production) (r : Row) → is grammar (Node f r) nonterminal.Expression ≡ true → (fits_of nonterminal.Expression f r ≡ true) × (left grammar f r ≡ Some []) × (led grammar nonterminal.Expression (spells r) ≡ true)
parts_of f r h =
    let m = and_true (fits_of nonterminal.Expression f r && led grammar nonterminal.Expression (spells r)) (over grammar (left grammar f r)) h in
    let n = and_true (fits_of nonterminal.Expression f r) (led grammar nonterminal.Expression (spells r)) m.0 in
    (n.0, is_over (left grammar f r) m.1, n.1)

complete_at : (f : Production) (r : Row) (t : Lexeme) → table.wrap nonterminal.Expression f t ≡ None → fits_of nonterminal.Expression f r ≡ true → led grammar nonterminal.Expression (spells r) ≡ true → complete table from_expression (Node f r) t ≡ only_if (grammar.stands (Is terminal.End) t) (Some (item production.Source (Then (Then Nil (Node f r)) (Leaf t)) [] ∷ []))
complete_at f r t w k g = rw (w, k, g) refl

tree_is_read : (f : Production) (r : Row) → is grammar (Node f r) nonterminal.Expression ≡ true → (q : State) × ReadsExpression (spells r) q × ((t : Lexeme) → harmless nonterminal.Expression t ≡ true → feed table q t ≡ only_if (grammar.stands (Is terminal.End) t) (Some (item production.Source (Then (Then Nil (Node f r)) (Leaf t)) [] ∷ [])))
tree_is_read f r h =
    let p = parts_of f r h in
    let calm = calm_of table operator_of harmless closes_of harmless_wrap (λ c f r t e k. harmless_edge c f r t e k) ending inside first first_of_row r f [] p.1 in
    let m = reads_tree table operator_of may_of no_cost no_cost no_growth fits_leads way f r production.Source Nil (Part nonterminal.Expression ∷ Token (Is terminal.End) ∷ []) [] nonterminal.Expression refl (fits_leads nonterminal.Expression f r p.0, p.1, p.2) calm in (
      m.0,
      m.1,
      λ t e.
          let edge = harmless_edge nonterminal.Expression f r t e p.0 in
          let quiet = quiet_of table operator_of harmless closes_of harmless_wrap (λ c f r t e k. harmless_edge c f r t e k) ending inside first r true true t f [] edge p.1 refl in
          m.2 t quiet ∙ complete_at f r t (harmless_wrap nonterminal.Expression f t e) p.0 p.2,
    )

end_harmless : harmless nonterminal.Expression end_mark ≡ true
unfolding tables Masks.harmless_masks
end_harmless = refl

semi_harmless : harmless nonterminal.Expression semi ≡ true
unfolding tables Masks.harmless_masks
semi_harmless = refl

do_semi_harmless : harmless nonterminal.Expression do_semi ≡ true
unfolding tables Masks.harmless_masks
do_semi_harmless = refl

end_stands : grammar.stands (Is terminal.End) end_mark ≡ true
unfolding Table.stands_of
end_stands = refl

semi_falls : grammar.stands (Is terminal.End) semi ≡ false
unfolding Table.stands_of
semi_falls = refl

do_semi_falls : grammar.stands (Is terminal.End) do_semi ≡ false
unfolding Table.stands_of
do_semi_falls = refl

if_so : {A : Type 0} (b : Bool) (x : Option A) → b ≡ true → only_if b x ≡ x
if_so b x e = rw e refl

if_not : {A : Type 0} (b : Bool) (x : Option A) → b ≡ false → only_if b x ≡ None
if_not b x e = rw e refl

-- what stands before the end: a tree, and no semicolon
abbrev Stands_before : State → Tree → Type 0
Stands_before q x = (feed table q end_mark ≡ Some (whole_expression x)) × (feed table q semi ≡ None) × (feed table q do_semi ≡ None)

pub read_tree : (ts : List Lexeme) (x : Tree) → IsSpelled grammar nonterminal.Expression ts x → (q : State) × ReadsExpression ts q × Stands_before q x
read_tree ts (Leaf u) h = let m = h.0 in cc
read_tree ts Absent h = let m = h.0 in cc
read_tree ts (Node f r) h =
    let m = tree_is_read f r h.0 in
    (m.0, ap (feeds table from_expression) (sym h.1) ∙ m.1, (m.2 end_mark end_harmless ∙ if_so _ _ end_stands, m.2 semi semi_harmless ∙ if_not _ _ semi_falls, m.2 do_semi do_semi_harmless ∙ if_not _ _ do_semi_falls))

-- no module stands in an expression
not_asked : may_of nonterminal.Expression production.Module ≡ false
unfolding tables
not_asked = refl

not_asked_source : may_of nonterminal.Expression production.Source ≡ false
unfolding tables
not_asked_source = refl

base_asks : (i : Item) (g : Production) (ts : List Lexeme) → i ≡ Rooted.base table production.Source production.Source nonterminal.Expression (Is terminal.End) → may_of nonterminal.Expression g ≡ false → Asked table production.Source i.rest g ts → ⊥
base_asks i g ts e n a =
    let P : Item → Type 0 = λ i. Asked table production.Source i.rest g ts in
    let b = (subst P e a).0 in
    cc

below_source : (k : Item) (s : State) (ts : List Lexeme) → Asked table production.Source k.rest production.Source ts → Fine (k ∷ s) ts → ⊥
below_source k [] ts a f = base_asks k production.Source ts f not_asked_source a
below_source k (j ∷ s) ts a f =
    let m = asked_outer k.production k.done k.rest production.Source ts (inr refl) f.0 a in
    different m.3

below_module : (j : Item) (s : State) (ts : List Lexeme) → Asked table production.Source j.rest production.Module ts → Fine (j ∷ s) ts → ⊥
below_module j [] ts a f = base_asks j production.Module ts f not_asked a
below_module j (k ∷ s) ts a f =
    let m = asked_outer j.production j.done j.rest production.Module ts (inl refl) f.0 a in
    let P : Production → Type 0 = λ x. Asked table production.Source k.rest x (spells j.done ++ ts) in
    below_source k s (spells j.done ++ ts) (subst P m.0 f.1) f.2

base_open : (i : Item) (t : Lexeme) → i ≡ Rooted.base table production.Source production.Source nonterminal.Expression (Is terminal.End) → Capped t (i ∷ []) → ⊥
base_open i t e c =
    let P : Item → Type 0 = λ i. Capped t (i ∷ []) in
    let d = (subst P e c).1 in
    cc

-- what the end is taken by stands below all else
end_below : (p : State) (t : Lexeme) → t.terminal ≡ terminal.End → Capped t p → Fine p [] → ⊥
end_below [] t e c f = elim c [ ]
end_below (i ∷ []) t e c f = base_open i t f c
end_below (i ∷ j ∷ s) t e c f =
    let m = top_end i.production c.0 t i.rest e (ap (left grammar i.production) (sym c.1) ∙ f.0) in
    let P : Production → Type 0 = λ x. Asked table production.Source j.rest x (spells i.done ++ []) in
    below_module j s (spells i.done ++ []) (subst P m.0 f.1) f.2

feeds_end : (ts : List Lexeme) (s q p : State) → feeds table s ts ≡ Some q → feed table q end_mark ≡ Some p → feeds table s (ts ++ end_mark ∷ []) ≡ Some p
feeds_end [] s q p h k = let e : s ≡ q = cc in rw (e, k) refl
feeds_end (t ∷ ts) s q p h k =
    let m = after_is (feed table s t) _ q h in
    rw m.1 (feeds_end ts m.0 q p m.2 k)

last_same : (a b : List Lexeme) (t u : Lexeme) → a ++ t ∷ [] ≡ b ++ u ∷ [] → (a ≡ b) × (t ≡ u)
last_same [] [] t u e = (refl, cc)
last_same [] (x ∷ []) t u e = cc
last_same [] (x ∷ y ∷ b) t u e = cc
last_same (x ∷ []) [] t u e = cc
last_same (x ∷ y ∷ a) [] t u e = cc
last_same (x ∷ a) (y ∷ b) t u e =
    let f : x ≡ y = cc in
    let g : a ++ t ∷ [] ≡ b ++ u ∷ [] = cc in
    let m = last_same a b t u g in
    (rw (f, m.0) refl, m.1)

-- what the end may follow is the tree of an expression
whole_of : (ts : List Lexeme) (p : State) → Capped end_mark p → (Fine p [] × (held p ≡ ts ++ end_mark ∷ [])) ⊎ Over p (ts ++ end_mark ∷ []) → (x : Tree) × (p ≡ whole_expression x) × IsSpelled grammar nonterminal.Expression ts x
whole_of ts p c (inl f) = absurd (end_below p end_mark refl c f.0)
whole_of ts p c (inr o) =
    let m = last_same (spells o.1) ts o.2 end_mark o.6 in
    let P : Lexeme → Type 0 = λ t. p ≡ item production.Source (Then (Then Nil (Node o.0 o.1)) (Leaf t)) [] ∷ [] in
    (Node o.0 o.1, subst P m.1 o.3, (o.4, m.0))

pub tree_read : (ts : List Lexeme) (q p : State) → ReadsExpression ts q → feed table q end_mark ≡ Some p → (x : Tree) × (p ≡ whole_expression x) × IsSpelled grammar nonterminal.Expression ts x
tree_read ts q p h k =
    let e = feeds_end ts from_expression q p h k in
    whole_of ts p (last_caps ts end_mark from_expression p e) (comes (ts ++ end_mark ∷ []) p e)

-- the same with semicolons inserted
no_end_append : (a b : List Lexeme) → NoEnd a → NoEnd b → NoEnd (a ++ b)
no_end_append [] b h k = k
no_end_append (t ∷ a) b h k = (h.0, no_end_append a b h.1 k)

semi_token : is_end semi.terminal ≡ false
unfolding is_end
semi_token = refl

do_semi_token : is_end do_semi.terminal ≡ false
unfolding is_end
do_semi_token = refl

marked_no_end : (xs : List Choice) → NoEnd (inserted.plain xs) → NoEnd (semicolons_in xs)
marked_no_end [] h = tt
marked_no_end ((Nothing, t) ∷ xs) h = (h.0, marked_no_end xs h.1)
marked_no_end ((Ending, t) ∷ xs) h = (semi_token, (h.0, marked_no_end xs h.1))
marked_no_end ((DoEnding, t) ∷ xs) h = (do_semi_token, (h.0, marked_no_end xs h.1))

abbrev Clear_by : List Lexeme → List Choice → Type 0
Clear_by b xs = Insertion.Clear_by table nonterminal.Expression semi do_semi rule_stands from_expression NoEnd good exact b xs

clear_by : (b : List Lexeme) (xs : List Choice) → NoEnd b → NoEnd (inserted.plain xs) → Clear_by b xs
clear_by b [] h k = tt
clear_by b ((Nothing, t) ∷ xs) h k = (no_end_append b (t ∷ []) h (k.0, tt), clear_by (b ++ t ∷ []) xs (no_end_append b (t ∷ []) h (k.0, tt)) k.1)
clear_by b ((Ending, t) ∷ xs) h k = (no_end_append b (t ∷ []) h (k.0, tt), clear_by (b ++ semi ∷ t ∷ []) xs (no_end_append b (semi ∷ t ∷ []) h (semi_token, (k.0, tt))) k.1)
clear_by b ((DoEnding, t) ∷ xs) h k = (no_end_append b (t ∷ []) h (k.0, tt), clear_by (b ++ do_semi ∷ t ∷ []) xs (no_end_append b (do_semi ∷ t ∷ []) h (do_semi_token, (k.0, tt))) k.1)

clear : (ts : List Lexeme) (xs : List Choice) → NoEnd ts → inserted.plain xs ≡ ts → Clear_by [] xs
clear ts xs n e = clear_by [] xs tt (subst NoEnd (sym e) n)

pub begun : (ts : List Lexeme) (q : State) → NoEnd ts → StepsExpression ts (Some q) → BeginsExpression ts
begun ts q n h = Insertion.begun table nonterminal.Expression semi do_semi rule_stands from_expression NoEnd good exact ts q (λ xs e. marked_no_end xs (subst NoEnd (sym e) n)) h

pub refused : (ts : List Lexeme) → NoEnd ts → StepsExpression ts None → BeginsExpression ts → ⊥
refused ts n h i = Insertion.refused table nonterminal.Expression semi do_semi rule_stands from_expression NoEnd good exact ts (λ xs e. clear ts xs n e) h i

pub same : (ts : List Lexeme) (q : State) (xs : List Choice) → NoEnd ts → StepsExpression ts (Some q) → Is_right_expression ts xs → HasBeginningExpression (semicolons_in xs) → ReadsExpression (semicolons_in xs) q
same ts q xs n h r p = Insertion.same table nonterminal.Expression semi do_semi rule_stands from_expression NoEnd good exact ts q xs (clear ts xs n r.0) h r.0 r.1 p

pub read : (ts : List Lexeme) (x : Tree) → NoEnd ts → HasExpression ts x → (q : State) × StepsExpression ts (Some q) × (feed table q end_mark ≡ Some (whole_expression x))
read ts x n h =
    let m = read_tree (semicolons_in h.0) x h.3 in
    let k = Insertion.whole table nonterminal.Expression semi do_semi rule_stands from_expression NoEnd good exact h.0 [] from_expression m.0 (clear ts h.0 n h.1) refl h.2 m.1 in
    (m.0, ap (steps table semi do_semi rule_stands from_expression) (sym h.1) ∙ k, m.2.0)

some_state : (a b : State) → Some a ≡ Some b → a ≡ b
some_state a b e = cc

pub whole : (ts : List Lexeme) (q p : State) → NoEnd ts → StepsExpression ts (Some q) → feed table q end_mark ≡ Some p → (x : Tree) × (p ≡ whole_expression x) × HasExpression ts x × (feed table q semi ≡ None) × (feed table q do_semi ≡ None)
whole ts q p n h k =
    let m = Insertion.sound table nonterminal.Expression semi do_semi rule_stands from_expression NoEnd good exact ts [] from_expression q refl h in
    let t = tree_read (semicolons_in m.0) q p m.3 k in
    let r = read_tree (semicolons_in m.0) t.0 t.2 in
    let e : r.0 ≡ q = some_state r.0 q (sym r.1 ∙ m.3) in
    let P : State → Type 0 = λ s. (feed table s semi ≡ None) × (feed table s do_semi ≡ None) in
    let z = subst P e (r.2.1, r.2.2) in
    (t.0, t.1, (m.0, m.1, m.2, t.2), z.0, z.1)

abbrev second : Row → Tree
second Nil = Absent
second (Then Nil y) = Absent
second (Then (Then r x) y) = x

abbrev top_tree : Option State → Tree
top_tree None = Absent
top_tree (Some []) = Absent
top_tree (Some (i ∷ s)) = second i.done

pub one : (ts : List Lexeme) (x y : Tree) → NoEnd ts → HasExpression ts x → HasExpression ts y → x ≡ y
one ts x y n h k =
    let a = read ts x n h in
    let b = read ts y n k in
    let e : a.0 ≡ b.0 = some_state a.0 b.0 (sym a.1 ∙ b.1) in
    let P : State → Type 0 = λ s. feed table s end_mark ≡ Some (whole_expression x) in
    ap top_tree (sym (subst P e a.2) ∙ b.2)

-- levels
no_level : (c n : ℕ) → c ≡ 0 → 0 + c ≤ n
no_level c n e = omega arith

no_step_more : (c : ℕ) → c ≡ 0 → 0 + c ≡ 0
no_step_more c e = omega arith

plus_none : (c n : ℕ) → c ≤ n → 0 + c ≤ n
plus_none c n h = omega arith

module _ (cost step : Production → Row → ℕ) (grows : (f : Production) (r : Row) (x : Tree) → cost f r ≤ cost f (Then r x)) (n : ℕ) (source_cost : cost production.Source Nil ≡ 0) (source_step : step production.Source Nil ≡ 0) (name_cost : cost production.IdentifierReference Nil ≤ n) where
  abbrev Deep : ℕ → Partial → Type 0
  Deep a p = LowPartial cost step a n p

  from_level : (p : Partial) → Deep (level cost step from_expression) p → Deep 0 p
  from_level p l = let P : ℕ → Type 0 = λ a. Deep a p in subst P (no_step_more _ source_step) l

  to_level : (p : Partial) → Deep 0 p → Deep (level cost step from_expression) p
  to_level p l = let P : ℕ → Type 0 = λ a. Deep a p in subst P (sym (no_step_more _ source_step)) l

  base_low : (i : Item) (p : Partial) → i ≡ Rooted.base table production.Source production.Source nonterminal.Expression (Is terminal.End) → Deep (level cost step (i ∷ [])) p → Deep 0 p
  base_low i p e =
      let P : Item → Type 0 = λ i. Deep (level cost step (i ∷ [])) p → Deep 0 p in
      subst P (sym e) (from_level p)

  zip_low : (s : State) (p : Partial) (ts : List Lexeme) → Fine s ts → Shallow cost step n s → Deep (level cost step s) p → Deep 0 (Rooted.zip table production.Source production.Source nonterminal.Expression (Is terminal.End) s p)
  zip_low [] p ts f h l = elim f [ ]
  zip_low (i ∷ []) p ts f h l = base_low i p f l
  zip_low (i ∷ j ∷ s) p ts f h l = zip_low (j ∷ s) (Within i.production i.done p) (spells i.done ++ ts) f.2 h.2 (h.0, h.1, l)

  held_low : (q : State) (ts : List Lexeme) → Fine q [] → held q ≡ ts → Shallow cost step n q → HasExpressionWithin cost step n ts
  unfolding held_partial
  held_low [] ts v e l = elim v [ ]
  held_low (i ∷ []) ts v e l = (held_partial (i ∷ []) ts v e, (plus_none _ n name_cost, tt))
  held_low (k ∷ j ∷ s) ts v e l = (held_partial (k ∷ j ∷ s) ts v e, zip_low (j ∷ s) (Open k.production k.done) (spells k.done ++ []) v.2 l.2 (l.0, l.1))

  within_enough : (ts : List Lexeme) (q : State) → NoEnd ts → ReadsExpression ts q → Shallow cost step n q → HasExpressionWithin cost step n ts
  within_enough ts q v h l = let f = fine_of ts q v (comes ts q h) in held_low q ts f.0 f.1 l

  from_shallow : Shallow cost step n from_expression
  from_shallow = (no_level _ n source_cost, tt, tt)

  within : (ts : List Lexeme) (q : State) → ReadsExpression ts q → HasExpressionWithin cost step n ts → Shallow cost step n q
  within ts q h l =
      let m = exact_low cost step grows ts l.0 in
      let e : m.0 ≡ q = some_state m.0 q (sym m.1 ∙ h) in
      let P : State → Type 0 = λ x. Shallow cost step n x in
      subst P e (m.2 n from_shallow (to_level l.0.0 l.1))

name_level : cost_of production.IdentifierReference Nil ≤ MAX_LEVELS
unfolding Table.levels_of
name_level = omega arith

low : (ts : List Lexeme) (q : State) → ReadsExpression ts q → HasLowExpression MAX_LEVELS ts → Shallow cost_of step_of MAX_LEVELS q
low ts q h l = within cost_of step_of levels_grow MAX_LEVELS source_levels source_steps name_level ts q h l

low_enough : (ts : List Lexeme) (q : State) → NoEnd ts → ReadsExpression ts q → Shallow cost_of step_of MAX_LEVELS q → HasLowExpression MAX_LEVELS ts
low_enough ts q v h l = within_enough cost_of step_of levels_grow MAX_LEVELS source_levels source_steps name_level ts q v h l

-- what the program tells of levels and of forms is so of each partial tree
pub tells_deep : (x : Flat) (b : Bool) → b ≡ is_too_deep x → Expression_tells_deep x b
tells_deep x true e = λ ts h l.
    let s = low ts h.0 h.2 l in
    let k : (nesting_on x.items).level ≡ level cost_of step_of h.0 = ap (λ y. (nesting_on y.items).level) h.3 ∙ open_up h.0 s in
    let P : ℕ → Type 0 = λ a. a ≤ MAX_LEVELS in
    was_not _ e (is_less (nesting_on x.items).level MAX_LEVELS (subst P (sym k) (reached h.0 MAX_LEVELS s)))
tells_deep x false e = λ ts h.
    let k = less_is (nesting_on x.items).level MAX_LEVELS (was _ e) in
    let P : Flat → Type 0 = λ y. (nesting_on y.items).level ≤ MAX_LEVELS in
    low_enough ts h.0 h.1 h.2 (open_down h.0 (subst P h.3 k))

name_count : (P : LeftOut → Bool) → counts P production.IdentifierReference Nil ≤ 0
unfolding Table.form_of Nesting.is_update Nesting.is_undecided Nesting.takes_pattern Nesting.takes_parameters
name_count P = omega arith

pub tells_form : (x : Flat) (o : Option LeftOut) → o ≡ left_out x → Expression_tells_form x o
tells_form x None e = λ ts h.
    within_enough (counts any_form) no_step (counts_grow any_form) 0 (source_count any_form) refl (name_count any_form) ts h.0 h.1 h.2 (open_none any_form h.0 (sym (e ∙ ap left_out h.3)))
tells_form x (Some f) e = λ ts h l.
    open_some (is_form f) f (itself _) h.0 (sym (e ∙ ap left_out h.3)) (within (counts (is_form f)) no_step (counts_grow (is_form f)) 0 (source_count (is_form f)) refl (name_count (is_form f)) ts h.0 h.2 l)
