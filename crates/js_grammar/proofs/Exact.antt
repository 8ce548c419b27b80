-- The reader is exact: what it takes has a partial tree, and all tokens of a partial tree are taken.
use Rattle.std.proofs.Common.{◌≡◌, ℕ, ◌≤◌, Bool, true, false, ◌&&◌, nat_eq, List, [], ◌∷◌, ◌++◌, Option, Some, None, refl, sym, ap, ◌∙◌, arith}
use Rattle.js_grammar.specs.declared.lexeme.Lexeme.{Lexeme}
use Rattle.js_grammar.specs.declared.symbols.Nonterminal.{Nonterminal}
use Rattle.js_grammar.specs.declared.symbols.Nonterminal.TheVariants as nonterminal
use Rattle.js_grammar.specs.declared.constituents.Constituent.{Constituent}
use Rattle.js_grammar.specs.declared.constituents.Constituent.TheVariants.{Part}
use Rattle.js_grammar.specs.declared.symbols.Production.{Production}
use Rattle.js_grammar.specs.declared.symbols.Production.TheVariants as production
use Rattle.js_grammar.specs.Grammar.{Tree, Leaf, Node, Absent, Row, Nil, Then, is, led, left, over, takes, only_if, spells, Partial, Open, Within, begins, IsPart, Stands, IsPartial, HasPartial}
use Rattle.js_grammar.specs.Levels.{LowPartial, level, Shallow}
use Rattle.js_grammar.specs.Machine.{State, item, feeds}
use Rattle.js_grammar.specs.Table
use Rattle.js_grammar.specs.Table.{rule_of, may_of, has_of, place_of, start_of, guard_of}
use Rattle.js_grammar.specs.Fits.{fits_of, grammar, table}
use Rattle.js_grammar.specs.Laws.{from}
use Rattle.js_grammar.proofs.Sound.{and_true, after_is, Fine, held, feeds_comes, holds_partial}
use Rattle.js_grammar.proofs.Ways.{is_empty, starts_row, no_nil, partial_starts, leads_partial, MayStart, Starts}
use Rattle.js_grammar.proofs.Follows.{reads_partial, reads_closed}
use Rattle.js_grammar.proofs.Calm.{implies, implied, calm_of, calm_partial_of}
use Rattle.js_grammar.proofs.Places.{productions}
use Rattle.js_grammar.proofs.Computed.{operator_of, closes_of, tables}
use Rattle.js_grammar.proofs.Tame.{all, each_production, same_production, harmless}
use Rattle.js_grammar.proofs.Entries.{start_opens, wrap_may, fits_leads, way, harmless_wrap, harmless_edge, inside, ending}
use Rattle.js_grammar.proofs.Dangling.{first}

source_all : all (λ f. implies (may_of nonterminal.Source f) (nat_eq (place_of f) (place_of production.Source))) productions ≡ true
unfolding tables
source_all = refl

pub only_source : (f : Production) → may_of nonterminal.Source f ≡ true → f ≡ production.Source
only_source f h = same_production f production.Source (implied (may_of nonterminal.Source f) (nat_eq (place_of f) (place_of production.Source)) (each_production (λ f. implies (may_of nonterminal.Source f) (nat_eq (place_of f) (place_of production.Source))) source_all f) h)

pub source_may : may_of nonterminal.Source production.Source ≡ true
unfolding tables
source_may = refl

pub module_may : may_of nonterminal.Module production.Module ≡ true
unfolding tables
module_may = refl

pub source_free : (t : Lexeme) → grammar.guard nonterminal.Source t ≡ true
unfolding Table.guards Table.guard_at_start
source_free t = refl

pub module_led : (ts : List Lexeme) → led grammar nonterminal.Module ts ≡ true
unfolding Table.guards Table.guard_at_start
module_led [] = refl
module_led (t ∷ ts) = refl

not_empty : (c : Nonterminal) (t : Lexeme) → (h : Production) × (hs : List Production) × (table.start c t ≡ h ∷ hs) → is_empty (table.start c t) ≡ false
not_empty c t x = rw x.2 refl

pub first_of_row : (d : Nonterminal) (h : Production) (q : Row) (t : Lexeme) (ts : List Lexeme) → fits_of d h q ≡ true → left grammar h q ≡ Some [] → led grammar d (spells q) ≡ true → spells q ≡ t ∷ ts → is_empty (table.start d t) ≡ false
first_of_row d h q t ts f l g e =
    let m = fits_leads d h q f in
    let s = starts_row table operator_of may_of fits_leads way q d h [] m l (no_nil table operator_of may_of fits_leads way q d h m l) g in
    let z : Starts table operator_of may_of d (t ∷ ts) = rw e at s in
    not_empty d t z

pub first_of_partial : (d : Nonterminal) (p : Partial) (t : Lexeme) (ts : List Lexeme) → IsPartial grammar p d → begins p ≡ t ∷ ts → is_empty (table.start d t) ≡ false
first_of_partial d p t ts i e =
    let s = partial_starts table operator_of may_of fits_leads way (λ c f h. h) p d (leads_partial table operator_of may_of fits_leads way (λ c f h. h) d p i) in
    let z : MayStart table operator_of may_of fits_leads way d (t ∷ ts) = rw e at s in
    not_empty d t z

-- all tokens of a partial tree are taken, and what is open then stands no deeper than it
pub exact_low : (cost step : Production → Row → ℕ) (grows : (f : Production) (r : Row) (x : Tree) → cost f r ≤ cost f (Then r x)) (ts : List Lexeme) (h : HasPartial grammar nonterminal.Module ts) → (q : State) × (feeds table from ts ≡ Some q) × ((n : ℕ) → Shallow cost step n from → LowPartial cost step (level cost step from) n h.0 → Shallow cost step n q)
exact_low cost step grows ts h =
    let calm = calm_partial_of table operator_of harmless closes_of harmless_wrap (λ c f r t e k. harmless_edge c f r t e k) ending inside first first_of_row first_of_partial h.0 nonterminal.Module h.1 in
    let m = reads_partial table operator_of may_of cost step grows fits_leads way (λ c f e. e) h.0 production.Source Nil (Part nonterminal.Module ∷ []) [] nonterminal.Module refl h.1 calm in
    (m.0, ap (feeds table from) (sym h.2) ∙ m.1, m.2)

no_cost : Production → Row → ℕ
no_cost f r = 0

no_growth : (f : Production) (r : Row) (x : Tree) → no_cost f r ≤ no_cost f (Then r x)
unfolding no_cost
no_growth f r x = omega arith

pub exact : (ts : List Lexeme) → HasPartial grammar nonterminal.Module ts → (q : State) × (feeds table from ts ≡ Some q)
exact ts h = let m = exact_low no_cost no_cost no_growth ts h in (m.0, m.1)

sub_left : (ps : List Constituent) (x : Tree) → takes grammar (is grammar x) (Part nonterminal.Module ∷ []) x ≡ Some ps → ps ≡ []
sub_left ps (Leaf u) h = cc
sub_left ps Absent h = cc
sub_left ps (Node m z) h = go (is grammar (Node m z) nonterminal.Module) h
  where
    go : (b : Bool) → only_if b (Some []) ≡ Some ps → ps ≡ []
    go true k = cc
    go false k = cc

pub source_left : (r : Row) (x : Tree) (ps : List Constituent) → left grammar production.Source (Then r x) ≡ Some ps → ps ≡ []
unfolding Table.rule_of
source_left Nil x ps h = sub_left ps x h
source_left (Then r y) x ps h =
    let m = after_is (left grammar production.Source (Then r y)) _ ps h in
    let e = source_left r y m.0 m.1 in
    let k = rw e at m.2 in
    cc

pub stood : (o : Option (List Constituent)) → Stands grammar o → (ps : List Constituent) × (o ≡ Some ps)
stood None h = elim h [ ]
stood (Some ps) h = (ps, refl)

pub only_stands : (b : Bool) (x : Option (List Constituent)) → Stands grammar (only_if b x) → b ≡ true
only_stands true x h = refl
only_stands false x h = elim h [ ]

pub is_over : (o : Option (List Constituent)) → over grammar o ≡ true → o ≡ Some []
is_over None h = cc
is_over (Some []) h = refl
is_over (Some (p ∷ ps)) h = cc

strip_row : (r : Row) → Stands grammar (left grammar production.Source r) → HasPartial grammar nonterminal.Module (spells r)
unfolding Table.rule_of
strip_row Nil h = (Open production.Module Nil, (module_may, refl, tt), refl)
strip_row (Then Nil (Leaf u)) h = elim h [ ]
strip_row (Then Nil Absent) h = elim h [ ]
strip_row (Then Nil (Node m z)) h =
    let k = only_stands (is grammar (Node m z) nonterminal.Module) _ h in
    let n0 = and_true (fits_of nonterminal.Module m z && led grammar nonterminal.Module (spells z)) (over grammar (left grammar m z)) k in
    let n : (fits_of nonterminal.Module m z ≡ true) × (over grammar (left grammar m z) ≡ true) = ((and_true (fits_of nonterminal.Module m z) (led grammar nonterminal.Module (spells z)) n0.0).0, n0.1) in
    let s : left grammar m z ≡ Some [] = is_over (left grammar m z) n.1 in
    (Open m z, (fits_leads nonterminal.Module m z n.0, module_led (spells z), rw s tt), refl)
strip_row (Then (Then r x) y) h =
    let n = stood (left grammar production.Source (Then (Then r x) y)) h in
    let m = after_is (left grammar production.Source (Then r x)) _ n.0 n.1 in
    let e = source_left r x m.0 m.1 in
    let k = rw e at m.2 in
    absurd cc

strip_part : (r : Row) (p : Partial) → IsPart grammar (IsPartial grammar p) (left grammar production.Source r) → HasPartial grammar nonterminal.Module (spells r ++ begins p)
unfolding Table.rule_of
strip_part Nil p h = (p, h, refl)
strip_part (Then r x) p h = go (left grammar production.Source (Then r x)) refl h
  where
    go : (o : Option (List Constituent)) → left grammar production.Source (Then r x) ≡ o → IsPart grammar (IsPartial grammar p) o → HasPartial grammar nonterminal.Module (spells (Then r x) ++ begins p)
    go None e k = elim k [ ]
    go (Some ps) e k = absurd (rw (source_left r x ps e) at k)

strip : (p : Partial) → IsPartial grammar p nonterminal.Source → HasPartial grammar nonterminal.Module (begins p)
strip (Open f r) h = strip_row r (rw (only_source f h.0) at h.2)
strip (Within f r p) h = strip_part r p (rw (only_source f h.0) at h.2)

-- what is taken has a partial tree
rule_source : rule_of production.Source ≡ Part nonterminal.Module ∷ []
unfolding Table.rule_of
rule_source = refl

pub from_fine : Fine table production.Source from []
unfolding Table.rule_of
from_fine = (refl, refl, tt)

held_good : (q : State) (ts : List Lexeme) → Fine table production.Source q [] × (held q ≡ ts) → HasPartial grammar nonterminal.Module ts
held_good [] ts v = (Open production.Module Nil, (module_may, refl, tt), v.1)
held_good (k ∷ s) ts v =
    let m = holds_partial table production.Source start_opens wrap_may nonterminal.Source k s source_may source_free v.0 in
    let n = strip m.0 m.1 in
    (n.0, n.1, n.2 ∙ m.2 ∙ v.1)

pub good : (ts : List Lexeme) (q : State) → feeds table from ts ≡ Some q → HasPartial grammar nonterminal.Module ts
good ts q h = held_good q ts (feeds_comes table production.Source start_opens wrap_may ts from q from_fine h)

-- the tree of a module is read, and stands whole on top
pub whole : (r : Row) (y : Tree) (u : Lexeme) → left grammar production.Module (Then (Then r y) (Leaf u)) ≡ Some [] → feeds table from (spells (Then (Then r y) (Leaf u))) ≡ Some (item production.Module (Then (Then r y) (Leaf u)) [] ∷ from)
whole r y u e =
    let calm = calm_of table operator_of harmless closes_of harmless_wrap (λ c f r t e k. harmless_edge c f r t e k) ending inside first first_of_row (Then (Then r y) (Leaf u)) production.Module [] e in
    reads_closed table operator_of may_of no_cost no_cost no_growth fits_leads way production.Module r y u [] production.Source Nil (Part nonterminal.Module ∷ []) [] nonterminal.Module refl module_may (module_led (spells (Then r y))) e calm
