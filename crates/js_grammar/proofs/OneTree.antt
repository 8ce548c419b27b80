-- The tree of a module is read, and stands whole on top: so tokens have one tree at most, with semicolons inserted too.
use Rattle.std.proofs.Common.{◌≡◌, Bool, true, false, ◌&&◌, cond, nat_eq, List, [], ◌∷◌, Option, Some, None, refl, sym, ap, subst, ◌∙◌}
use Rattle.js_grammar.specs.declared.lexeme.Lexeme.{Lexeme}
use Rattle.js_grammar.specs.declared.symbols.Terminal.TheVariants as terminal
use Rattle.js_grammar.specs.declared.symbols.Nonterminal.TheVariants as nonterminal
use Rattle.js_grammar.specs.declared.symbols.Production.{Production}
use Rattle.js_grammar.specs.declared.symbols.Production.TheVariants as production
use Rattle.js_grammar.specs.declared.constituents.Terminals.TheVariants.{Is}
use Rattle.js_grammar.specs.declared.constituents.Repetition.TheVariants.{Many}
use Rattle.js_grammar.specs.declared.constituents.Constituent.{Constituent}
use Rattle.js_grammar.specs.declared.constituents.Constituent.TheVariants.{Token, Optional}
use Rattle.js_grammar.specs.Grammar.{Tree, Leaf, Node, Absent, Row, Nil, Then, is, led, left, over, takes, spells, IsSpelled}
use Rattle.js_grammar.specs.Machine.{State, feeds}
use Rattle.js_grammar.specs.Inserted.{HasTree, steps, marked}
use Rattle.js_grammar.specs.Table
use Rattle.js_grammar.specs.Table.{rule_of, may_of, place_of, ends_of}
use Rattle.js_grammar.specs.Fits
use Rattle.js_grammar.specs.Fits.{fits_of, grammar, table, summary_of}
use Rattle.js_grammar.specs.Laws.{from, semi, do_semi, rule_stands, whole_state}
use Rattle.js_grammar.proofs.Sound.{and_true, after_is, only_some, feeds_comes}
use Rattle.js_grammar.proofs.Calm.{implies, implied}
use Rattle.js_grammar.proofs.Places.{productions}
use Rattle.js_grammar.proofs.Computed.{tables}
use Rattle.js_grammar.proofs.Tame.{all, each_production, same_production}
use Rattle.js_grammar.proofs.Entries.{fits_leads, start_opens, wrap_may}
use Rattle.js_grammar.proofs.Exact.{good, exact, whole, from_fine, module_led}
use Rattle.js_grammar.proofs.Insertion.{all_sound, all_whole}

-- what may be left of the rule of a module
pub data Tail : List Constituent → Type 0 where
  whole_rule : Tail (Token (Is terminal.Start) ∷ Optional nonterminal.ModuleItem Many ∷ Token (Is terminal.End) ∷ [])
  in_list : Tail (Optional nonterminal.ModuleItem Many ∷ Token (Is terminal.End) ∷ [])
  at_end : Tail (Token (Is terminal.End) ∷ [])
  over_it : Tail []

along : (a b : List Constituent) → Tail a → Some a ≡ Some b → Tail b
along a b t e = let k : a ≡ b = cc in subst Tail k t

followed : (b : Bool) → Tail (cond b (Token (Is terminal.End) ∷ []) (Optional nonterminal.ModuleItem Many ∷ Token (Is terminal.End) ∷ []))
followed true = at_end
followed false = in_list

takes_tail : (ps qs : List Constituent) (x : Tree) → Tail ps → takes grammar (is grammar x) ps x ≡ Some qs → Tail qs
takes_tail _ qs (Leaf u) whole_rule h = along _ qs in_list (only_some (grammar.stands (Is terminal.Start) u) _ qs h).1
takes_tail _ qs (Leaf u) in_list h = cc
takes_tail _ qs (Leaf u) at_end h = along _ qs over_it (only_some (grammar.stands (Is terminal.End) u) _ qs h).1
takes_tail _ qs (Leaf u) over_it h = cc
takes_tail _ qs (Node f r) whole_rule h = cc
takes_tail _ qs (Node f r) in_list h = along _ qs (followed (ends_of f)) (only_some (is grammar (Node f r) nonterminal.ModuleItem) _ qs h).1
takes_tail _ qs (Node f r) at_end h = cc
takes_tail _ qs (Node f r) over_it h = cc
takes_tail _ qs Absent whole_rule h = cc
takes_tail _ qs Absent in_list h = along _ qs at_end h
takes_tail _ qs Absent at_end h = cc
takes_tail _ qs Absent over_it h = cc

not_over : (b : Bool) → Some (cond b (Token (Is terminal.End) ∷ []) (Optional nonterminal.ModuleItem Many ∷ Token (Is terminal.End) ∷ [])) ≡ Some [] → ⊥
not_over true h = cc
not_over false h = cc

-- the last part of a module is a token
last_leaf : (ps : List Constituent) (x : Tree) → Tail ps → takes grammar (is grammar x) ps x ≡ Some [] → (u : Lexeme) × (x ≡ Leaf u)
last_leaf _ (Leaf u) t h = (u, refl)
last_leaf _ (Node f r) whole_rule h = cc
last_leaf _ (Node f r) in_list h = absurd (not_over (ends_of f) (only_some (is grammar (Node f r) nonterminal.ModuleItem) _ [] h).1)
last_leaf _ (Node f r) at_end h = cc
last_leaf _ (Node f r) over_it h = cc
last_leaf _ Absent whole_rule h = cc
last_leaf _ Absent in_list h = cc
last_leaf _ Absent at_end h = cc
last_leaf _ Absent over_it h = cc

rule_module : Tail (rule_of production.Module)
unfolding Table.rule_of
rule_module = whole_rule

pub left_tail : (r : Row) (qs : List Constituent) → left grammar production.Module r ≡ Some qs → Tail qs
left_tail Nil qs h = along _ qs rule_module h
left_tail (Then r x) qs h =
    let m = after_is (left grammar production.Module r) _ qs h in
    takes_tail m.0 qs x (left_tail r m.0 m.1) m.2

first_alone : (x : Tree) → left grammar production.Module (Then Nil x) ≡ Some [] → ⊥
unfolding Table.rule_of
first_alone (Leaf u) h = let m = (only_some (grammar.stands (Is terminal.Start) u) _ [] h).1 in cc
first_alone (Node f r) h = cc
first_alone Absent h = cc

no_parts : left grammar production.Module Nil ≡ Some [] → ⊥
unfolding Table.rule_of
no_parts h = cc

read_row : (r : Row) → left grammar production.Module r ≡ Some [] → feeds table from (spells r) ≡ Some (whole_state r)
read_row Nil h = absurd (no_parts h)
read_row (Then Nil x) h = absurd (first_alone x h)
read_row (Then (Then r y) x) h =
    let m = after_is (left grammar production.Module (Then r y)) _ [] h in
    let k = last_leaf m.0 x (left_tail (Then r y) m.0 m.1) m.2 in
    let P : Tree → Type 0 = λ z. left grammar production.Module (Then (Then r y) z) ≡ Some [] → feeds table from (spells (Then (Then r y) z)) ≡ Some (whole_state (Then (Then r y) z)) in
    subst P (sym k.1) (whole r y k.0) h

module_all : all (λ f. implies (may_of nonterminal.Module f) (nat_eq (place_of f) (place_of production.Module))) productions ≡ true
unfolding tables
module_all = refl

pub only_module : (f : Production) → may_of nonterminal.Module f ≡ true → f ≡ production.Module
only_module f h = same_production f production.Module (implied (may_of nonterminal.Module f) (nat_eq (place_of f) (place_of production.Module)) (each_production (λ f. implies (may_of nonterminal.Module f) (nat_eq (place_of f) (place_of production.Module))) module_all f) h)

is_over : (o : Option (List Constituent)) → over grammar o ≡ true → o ≡ Some []
is_over None h = cc
is_over (Some []) h = refl
is_over (Some (p ∷ ps)) h = cc

-- a module's tree is read, and stands whole
pub read_tree : (ts : List Lexeme) (x : Tree) → IsSpelled grammar nonterminal.Module ts x → (r : Row) × (x ≡ Node production.Module r) × (feeds table from ts ≡ Some (whole_state r))
read_tree ts (Leaf u) h = let m = h.0 in cc
read_tree ts Absent h = let m = h.0 in cc
read_tree ts (Node f r) h =
    let m = and_true (fits_of nonterminal.Module f r && led grammar nonterminal.Module (spells r)) (over grammar (left grammar f r)) h.0 in
    let n = and_true (fits_of nonterminal.Module f r) (led grammar nonterminal.Module (spells r)) m.0 in
    let e : f ≡ production.Module = only_module f (fits_leads nonterminal.Module f r n.0) in
    let l : left grammar production.Module r ≡ Some [] = rw e at (is_over (left grammar f r) m.1) in
    (r, ap (λ g. Node g r) e, ap (feeds table from) (sym h.1) ∙ read_row r l)

module_fits : (r : Row) → fits_of nonterminal.Module production.Module r ≡ true
unfolding tables Fits.fits_of Fits.refined_by Fits.is_cover
module_fits r = refl

-- and what stands whole is a module's tree
pub tree_read : (ts : List Lexeme) (r : Row) → feeds table from ts ≡ Some (whole_state r) → IsSpelled grammar nonterminal.Module ts (Node production.Module r)
tree_read ts r h =
    let m = feeds_comes table production.Source start_opens wrap_may ts from (whole_state r) from_fine h in
    (rw (module_fits r, module_led (spells r), m.0.0) refl, m.1)

abbrev top_done : Option State → Row
top_done None = Nil
top_done (Some []) = Nil
top_done (Some (i ∷ s)) = i.done

-- the same with semicolons inserted
pub inserted_read : (ts : List Lexeme) (x : Tree) → HasTree grammar nonterminal.Module semi do_semi rule_stands ts x → (r : Row) × (x ≡ Node production.Module r) × (steps table semi do_semi rule_stands from ts ≡ Some (whole_state r))
inserted_read ts x h =
    let m = read_tree (marked grammar nonterminal.Module semi do_semi rule_stands h.0) x h.3 in
    let k = all_whole table nonterminal.Module semi do_semi rule_stands from good exact h.0 [] from (whole_state m.0) refl h.2 m.2 in
    (m.0, m.1, ap (steps table semi do_semi rule_stands from) (sym h.1) ∙ k)

pub read_inserted : (ts : List Lexeme) (r : Row) → steps table semi do_semi rule_stands from ts ≡ Some (whole_state r) → HasTree grammar nonterminal.Module semi do_semi rule_stands ts (Node production.Module r)
read_inserted ts r h =
    let m = all_sound table nonterminal.Module semi do_semi rule_stands from good exact ts [] from (whole_state r) refl h in
    (m.0, m.1, m.2, tree_read (marked grammar nonterminal.Module semi do_semi rule_stands m.0) r m.3)

pub one_tree : (ts : List Lexeme) (x y : Tree) → HasTree grammar nonterminal.Module semi do_semi rule_stands ts x → HasTree grammar nonterminal.Module semi do_semi rule_stands ts y → x ≡ y
one_tree ts x y h k =
    let a = inserted_read ts x h in
    let b = inserted_read ts y k in
    let r : a.0 ≡ b.0 = ap top_done (sym a.2 ∙ b.2) in
    a.1 ∙ ap (λ q. Node production.Module q) r ∙ sym b.1
