-- What ends with the end of a source is a module that stands whole.
use Rattle.std.proofs.Common.{◌≡◌, Bool, true, false, not, ◌&&◌, ◌||◌, nat_eq, List, [], ◌∷◌, ◌++◌, Option, Some, None, ◌⊎◌, inl, inr, refl, sym, ap, subst, ◌∙◌}
use Rattle.js_grammar.specs.declared.lexeme.Lexeme.{Lexeme}
use Rattle.js_grammar.specs.declared.symbols.Terminal.TheVariants as terminal
use Rattle.js_grammar.specs.declared.symbols.Nonterminal.{Nonterminal}
use Rattle.js_grammar.specs.declared.symbols.Nonterminal.TheVariants as nonterminal
use Rattle.js_grammar.specs.declared.symbols.Production.{Production}
use Rattle.js_grammar.specs.declared.symbols.Production.TheVariants as production
use Rattle.js_grammar.specs.declared.constituents.Repetition.{Repetition}
use Rattle.js_grammar.specs.declared.constituents.Repetition.TheVariants.{Once, Many, Listed}
use Rattle.js_grammar.specs.declared.constituents.Terminals.{Terminals}
use Rattle.js_grammar.specs.declared.constituents.Terminals.TheVariants.{Is}
use Rattle.js_grammar.specs.declared.constituents.Constituent.{Constituent}
use Rattle.js_grammar.specs.declared.constituents.Constituent.TheVariants.{Token, Part, Optional, Further}
use Rattle.js_grammar.specs.Grammar.{Tree, Leaf, Node, Absent, Row, Nil, Then, is, only_if, behind, follow, left, takes, spells}
use Rattle.js_grammar.specs.Machine.{State, item, begun, opened, or_else, choose, onward, wrapped, joined, put, complete, feed, feeds}
use Rattle.js_grammar.specs.Table
use Rattle.js_grammar.specs.Table.{rule_of, stands_of, may_of, ends_of, index_of, place_of}
use Rattle.js_grammar.specs.Fits.{grammar, table}
use Rattle.js_grammar.specs.Laws.{from, whole_state}
use Rattle.js_grammar.proofs.Sound.{and_true, after_is, only_some, feeds_comes, Fine, Below, Asked}
use Rattle.js_grammar.proofs.Calm.{implies, implied}
use Rattle.js_grammar.proofs.Places.{productions, nonterminals}
use Rattle.js_grammar.proofs.Computed.{tables}
use Rattle.js_grammar.proofs.Tame.{all, each_production, each_nonterminal, same_production}
use Rattle.js_grammar.proofs.Entries.{start_opens, wrap_may}
use Rattle.js_grammar.proofs.Exact.{from_fine, source_left}
use Rattle.js_grammar.proofs.OneTree.{Tail, whole_rule, in_list, at_end, over_it, left_tail, only_module}

-- a token that is taken is the last part of the innermost open production
abbrev pub Capped : Lexeme → State → Type 0
Capped t [] = ⊥
Capped t (i ∷ s) = (r : Row) × (i.done ≡ Then r (Leaf t))

abbrev Caps : Lexeme → Option State → Type 0
Caps t o = (q : State) → o ≡ Some q → Capped t q

caps_none : (t : Lexeme) → Caps t None
caps_none t q e = cc

caps_some : (t : Lexeme) (f : Production) (r : Row) (ps : List Constituent) (s : State) → Caps t (Some (item f (Then r (Leaf t)) ps ∷ s))
caps_some t f r ps s q e = let same : item f (Then r (Leaf t)) ps ∷ s ≡ q = cc in subst (Capped t) same (r, refl)

caps_if : (t : Lexeme) (b : Bool) (o : Option State) → Caps t o → Caps t (only_if b o)
caps_if t true o h = h
caps_if t false o h = caps_none t

begun_caps : (f : Production) (ps : List Constituent) (s : State) (t : Lexeme) → Caps t (begun table f ps s t)
begun_caps f [] s t = caps_none t
begun_caps f (Part c ∷ ps) s t = caps_none t
begun_caps f (Optional c v ∷ ps) s t = caps_none t
begun_caps f (Further c w ∷ ps) s t = caps_none t
begun_caps f (Token w ∷ ps) s t = caps_if t (grammar.stands w t) _ (caps_some t f Nil ps s)

opened_caps : (fs : List Production) (s : State) (t : Lexeme) → Caps t (opened table fs s t)
opened_caps [] s t = caps_none t
opened_caps (f ∷ []) s t = begun_caps f (rule_of f) s t
opened_caps (f ∷ h ∷ fs) s t = opened_caps (h ∷ fs) (item f Nil (rule_of f) ∷ s) t

or_caps : (t : Lexeme) (fs : List Production) (a b : Option State) → Caps t a → Caps t b → Caps t (or_else fs a b)
or_caps t [] a b x y = x
or_caps t (f ∷ fs) a b x y = y

choose_caps : (t : Lexeme) (v : Bool) (a b : Option State) → Caps t a → Caps t b → Caps t (choose v a b)
choose_caps t true a b x y = x
choose_caps t false a b x y = y

joined_caps : (t : Lexeme) (o : Option Production) (a : Option State) (w : Production → Option State) → Caps t a → ((u : Production) → Caps t (w u)) → Caps t (joined o a w)
joined_caps t None a w x y = x
joined_caps t (Some u) a w x y = y u

onward_caps : (ended : Tree → Option State) (s : State) (f : Production) (r : Row) (ps : List Constituent) (t : Lexeme) → ((x : Tree) → Caps t (ended x)) → Caps t (onward table ended s f r ps t)
onward_caps ended s f r [] t e = e (Node f r)
onward_caps ended s f r (Token w ∷ ps) t e = caps_if t (grammar.stands w t) _ (caps_some t f r ps s)
onward_caps ended s f r (Part c ∷ ps) t e = opened_caps (table.start c t) _ t
onward_caps ended s f r (Optional c v ∷ ps) t e = or_caps t (table.start c t) _ _ (onward_caps ended s f (Then r Absent) ps t e) (opened_caps (table.start c t) _ t)
onward_caps ended s f r (Further c w ∷ ps) t e = choose_caps t (grammar.stands w t) _ _ (caps_some t f r (Optional c (Listed w) ∷ ps) s) (onward_caps ended s f (Then r Absent) ps t e)

wrapped_caps : (f : Production) (ps : List Constituent) (s : State) (x : Tree) (t : Lexeme) → Caps t (wrapped table f ps s x t)
wrapped_caps f [] s x t = caps_none t
wrapped_caps f (Token w ∷ ps) s x t = caps_none t
wrapped_caps f (Optional c v ∷ ps) s x t = caps_none t
wrapped_caps f (Further c w ∷ ps) s x t = caps_none t
wrapped_caps f (Part c ∷ []) s x t = caps_none t
wrapped_caps f (Part c ∷ Part d ∷ ps) s x t = caps_none t
wrapped_caps f (Part c ∷ Optional d v ∷ ps) s x t = caps_none t
wrapped_caps f (Part c ∷ Further d w ∷ ps) s x t = caps_none t
wrapped_caps f (Part c ∷ Token w ∷ ps) s x t = caps_if t _ _ (caps_if t (grammar.stands w t) _ (caps_some t f (Then Nil x) ps s))

put_caps : (ended : Tree → Option State) (s : State) (f : Production) (r : Row) (ps : List Constituent) (x : Tree) (t : Lexeme) → ((x : Tree) → Caps t (ended x)) → Caps t (put table ended s f r ps x t)
put_caps ended s f r [] x t e = caps_none t
put_caps ended s f r (Token w ∷ ps) x t e = caps_none t
put_caps ended s f r (Further c w ∷ ps) x t e = caps_none t
put_caps ended s f r (Part c ∷ ps) (Leaf u) t e = caps_none t
put_caps ended s f r (Part c ∷ ps) Absent t e = caps_none t
put_caps ended s f r (Part c ∷ ps) (Node h q) t e = joined_caps t (table.wrap c h t) _ _ (caps_if t _ _ (onward_caps ended s f (Then r (Node h q)) ps t e)) (λ u. wrapped_caps u (rule_of u) _ (Node h q) t)
put_caps ended s f r (Optional c v ∷ ps) (Leaf u) t e = caps_none t
put_caps ended s f r (Optional c v ∷ ps) Absent t e = caps_none t
put_caps ended s f r (Optional c v ∷ ps) (Node h q) t e = joined_caps t (table.wrap c h t) _ _ (caps_if t _ _ (onward_caps ended s f (Then r (Node h q)) (follow (ends_of h) c v ps) t e)) (λ u. wrapped_caps u (rule_of u) _ (Node h q) t)

complete_caps : (s : State) (t : Lexeme) (x : Tree) → Caps t (complete table s x t)
complete_caps [] t x = caps_none t
complete_caps (i ∷ s) t x = put_caps (λ y. complete table s y t) s i.production i.done i.rest x t (complete_caps s t)

feed_caps : (s : State) (t : Lexeme) → Caps t (feed table s t)
feed_caps [] t = caps_none t
feed_caps (i ∷ s) t = onward_caps (λ y. complete table s y t) s i.production i.done i.rest t (complete_caps s t)

pub last_caps : (ts : List Lexeme) (t : Lexeme) (s q : State) → feeds table s (ts ++ t ∷ []) ≡ Some q → Capped t q
last_caps [] t s q h =
    let m = after_is (feed table s t) _ q h in
    let same : m.0 ≡ q = cc in
    subst (Capped t) same (feed_caps s t m.0 m.1)
last_caps (u ∷ ts) t s q h =
    let m = after_is (feed table s u) _ q h in
    last_caps ts t m.0 q m.2

-- the end of a source, modules and sources stand in no other rule
abbrev is_inside : Nonterminal → Bool
is_inside c = not (nat_eq (index_of c) (index_of nonterminal.Module)) && not (nat_eq (index_of c) (index_of nonterminal.Source))

abbrev is_free : Terminals → Bool
is_free w = not (stands_of w terminal.End)

abbrev parted : Repetition → Bool
parted (Listed w) = is_free w
parted _ = true

abbrev closed : List Constituent → Bool
closed [] = true
closed (Token w ∷ ps) = is_free w && closed ps
closed (Part c ∷ ps) = is_inside c && closed ps
closed (Optional c k ∷ ps) = (is_inside c && parted k) && closed ps
closed (Further c w ∷ ps) = (is_inside c && is_free w) && closed ps

abbrev is_outer : Production → Bool
is_outer f = nat_eq (place_of f) (place_of production.Module) || nat_eq (place_of f) (place_of production.Source)

closed_all : all (λ f. is_outer f || closed (rule_of f)) productions ≡ true
unfolding tables
closed_all = refl

may_all : all (λ c. implies (may_of c production.Module || may_of c production.Source) (not (is_inside c))) nonterminals ≡ true
unfolding tables
may_all = refl

along : (ps qs : List Constituent) → closed ps ≡ true → Some ps ≡ Some qs → closed qs ≡ true
along ps qs h e = let same : ps ≡ qs = cc in let P : List Constituent → Type 0 = λ x. closed x ≡ true in subst P same h

closed_behind : (ps : List Constituent) → closed ps ≡ true → closed (behind ps) ≡ true
closed_behind [] h = refl
closed_behind (Token w ∷ ps) h = (and_true (is_free w) (closed ps) h).1
closed_behind (Part c ∷ ps) h = (and_true (is_inside c) (closed ps) h).1
closed_behind (Optional c k ∷ ps) h = (and_true (is_inside c && parted k) (closed ps) h).1
closed_behind (Further c w ∷ ps) h = (and_true (is_inside c && is_free w) (closed ps) h).1

closed_follow : (v : Bool) (c : Nonterminal) (k : Repetition) (ps : List Constituent) → closed (Optional c k ∷ ps) ≡ true → closed (follow v c k ps) ≡ true
closed_follow true c Once ps h = closed_behind ps (closed_behind (Optional c Once ∷ ps) h)
closed_follow false c Once ps h = closed_behind (Optional c Once ∷ ps) h
closed_follow true c Many ps h = closed_behind (Optional c Many ∷ ps) h
closed_follow false c Many ps h = h
closed_follow true c (Listed w) ps h = closed_behind (Optional c (Listed w) ∷ ps) h
closed_follow false c (Listed w) ps h = h

closed_takes : (is : Nonterminal → Bool) (ps qs : List Constituent) (x : Tree) → closed ps ≡ true → takes grammar is ps x ≡ Some qs → closed qs ≡ true
closed_takes is [] qs x h e = cc
closed_takes is (Token w ∷ ps) qs (Leaf t) h e = along ps qs (closed_behind (Token w ∷ ps) h) (only_some (grammar.stands w t) _ qs e).1
closed_takes is (Token w ∷ ps) qs (Node f r) h e = cc
closed_takes is (Token w ∷ ps) qs Absent h e = cc
closed_takes is (Part c ∷ ps) qs (Leaf t) h e = cc
closed_takes is (Part c ∷ ps) qs (Node f r) h e = along ps qs (closed_behind (Part c ∷ ps) h) (only_some (is c) _ qs e).1
closed_takes is (Part c ∷ ps) qs Absent h e = cc
closed_takes is (Optional c k ∷ ps) qs (Leaf t) h e = cc
closed_takes is (Optional c k ∷ ps) qs (Node f r) h e = along (follow (ends_of f) c k ps) qs (closed_follow (ends_of f) c k ps h) (only_some (is c) _ qs e).1
closed_takes is (Optional c k ∷ ps) qs Absent h e = along ps qs (closed_behind (Optional c k ∷ ps) h) e
closed_takes is (Further c w ∷ ps) qs (Leaf t) h e = along (Optional c (Listed w) ∷ ps) qs h (only_some (grammar.stands w t) _ qs e).1
closed_takes is (Further c w ∷ ps) qs (Node f r) h e = cc
closed_takes is (Further c w ∷ ps) qs Absent h e = along ps qs (closed_behind (Further c w ∷ ps) h) e

closed_left : (r : Row) (f : Production) (ps : List Constituent) → closed (rule_of f) ≡ true → left grammar f r ≡ Some ps → closed ps ≡ true
closed_left Nil f ps h e = along (rule_of f) ps h e
closed_left (Then r x) f ps h e =
    let m = after_is (left grammar f r) _ ps e in
    closed_takes (is grammar x) m.0 ps x (closed_left r f m.0 h m.1) m.2

not_both : (b : Bool) → b ≡ true → not b ≡ true → ⊥
not_both true h k = cc
not_both false h k = cc

free_end : (w : Terminals) (t : Lexeme) → is_free w ≡ true → t.terminal ≡ terminal.End → grammar.stands w t ≡ true → ⊥
free_end w t h e k = not_both (stands_of w terminal.End) (ap (stands_of w) (sym e) ∙ k) h

closed_end : (is : Nonterminal → Bool) (ps qs : List Constituent) (t : Lexeme) → closed ps ≡ true → t.terminal ≡ terminal.End → takes grammar is ps (Leaf t) ≡ Some qs → ⊥
closed_end is [] qs t h e k = cc
closed_end is (Token w ∷ ps) qs t h e k = free_end w t (and_true (is_free w) (closed ps) h).0 e (only_some (grammar.stands w t) _ qs k).0
closed_end is (Part c ∷ ps) qs t h e k = cc
closed_end is (Optional c v ∷ ps) qs t h e k = cc
closed_end is (Further c w ∷ ps) qs t h e k = free_end w t (and_true (is_inside c) (is_free w) (and_true (is_inside c && is_free w) (closed ps) h).0).1 e (only_some (grammar.stands w t) _ qs k).0

abbrev pub Outer : Production → Type 0
Outer f = (f ≡ production.Module) ⊎ (f ≡ production.Source)

outer_or : (f : Production) (a b : Bool) → nat_eq (place_of f) (place_of production.Module) ≡ a → nat_eq (place_of f) (place_of production.Source) ≡ b → ((a || b) || closed (rule_of f)) ≡ true → Outer f ⊎ (closed (rule_of f) ≡ true)
outer_or f true b e g h = inl (inl (same_production f production.Module e))
outer_or f false true e g h = inl (inr (same_production f production.Source g))
outer_or f false false e g h = inr h

outer : (f : Production) → Outer f ⊎ (closed (rule_of f) ≡ true)
outer f = outer_or f _ _ refl refl (each_production (λ f. is_outer f || closed (rule_of f)) closed_all f)

or_left : (a b : Bool) → a ≡ true → (a || b) ≡ true
or_left true b h = refl
or_left false b h = cc

or_right : (a b : Bool) → b ≡ true → (a || b) ≡ true
or_right true b h = refl
or_right false b h = h

not_inside : (c : Nonterminal) (g : Production) → Outer g → may_of c g ≡ true → is_inside c ≡ true → ⊥
not_inside c g o h k = not_both (is_inside c) k (implied (may_of c production.Module || may_of c production.Source) (not (is_inside c)) (each_nonterminal (λ c. implies (may_of c production.Module || may_of c production.Source) (not (is_inside c))) may_all c) (by o))
  where
    by : Outer g → (may_of c production.Module || may_of c production.Source) ≡ true
    by (inl e) = or_left (may_of c production.Module) (may_of c production.Source) (ap (may_of c) (sym e) ∙ h)
    by (inr e) = or_right (may_of c production.Module) (may_of c production.Source) (ap (may_of c) (sym e) ∙ h)

item_outer : nonterminal.ModuleItem ≡ nonterminal.ModuleItem → is_inside nonterminal.ModuleItem ≡ true
unfolding tables
item_outer e = refl

-- where a module or a source is asked for
asked_closed : (ps : List Constituent) (g : Production) (ts : List Lexeme) → Outer g → Asked table production.Source ps g ts → closed ps ≡ true → ⊥
asked_closed [] g ts o a h = elim a [ ]
asked_closed (Token w ∷ ps) g ts o a h = elim a [ ]
asked_closed (Part c ∷ ps) g ts o a h = not_inside c g o a.0 (and_true (is_inside c) (closed ps) h).0
asked_closed (Optional c k ∷ ps) g ts o a h = not_inside c g o a.0 (and_true (is_inside c) (parted k) (and_true (is_inside c && parted k) (closed ps) h).0).0
asked_closed (Further c w ∷ ps) g ts o a h = elim a [ ]

asked_tail : (ps : List Constituent) (g : Production) (ts : List Lexeme) → Outer g → Asked table production.Source ps g ts → Tail ps → ⊥
asked_tail _ g ts o a whole_rule = elim a [ ]
asked_tail _ g ts o a in_list = not_inside nonterminal.ModuleItem g o a.0 (item_outer refl)
asked_tail _ g ts o a at_end = elim a [ ]
asked_tail _ g ts o a over_it = elim a [ ]

asked_source : (r : Row) (ps : List Constituent) (g : Production) (ts : List Lexeme) → left grammar production.Source r ≡ Some ps → Asked table production.Source ps g ts → (r ≡ Nil) × (ps ≡ Part nonterminal.Module ∷ []) × (g ≡ production.Module)
unfolding Table.rule_of
asked_source Nil ps g ts h a =
    let same : Part nonterminal.Module ∷ [] ≡ ps = cc in
    let P : List Constituent → Type 0 = λ x. Asked table production.Source x g ts in
    (refl, sym same, only_module g (subst P (sym same) a).0)
asked_source (Then r x) ps g ts h a =
    let P : List Constituent → Type 0 = λ x. Asked table production.Source x g ts in
    let none : ⊥ = subst P (source_left r x ps h) a in
    elim none [ ]

abbrev pub Bottom : Production → Row → List Constituent → Production → Type 0
Bottom f r ps g = (f ≡ production.Source) × (r ≡ Nil) × (ps ≡ Part nonterminal.Module ∷ []) × (g ≡ production.Module)

pub asked_outer : (f : Production) (r : Row) (ps : List Constituent) (g : Production) (ts : List Lexeme) → Outer g → left grammar f r ≡ Some ps → Asked table production.Source ps g ts → Bottom f r ps g
asked_outer f r ps g ts o h a = by (outer f)
  where
    by : Outer f ⊎ (closed (rule_of f) ≡ true) → Bottom f r ps g
    by (inr k) = absurd (asked_closed ps g ts o a (closed_left r f ps k h))
    by (inl (inl e)) = absurd (asked_tail ps g ts o a (left_tail r ps (rw e at h)))
    by (inl (inr e)) = let m = asked_source r ps g ts (rw e at h) a in (e, m.0, m.1, m.2)

pub different : production.Source ≡ production.Module → ⊥
different e = cc

-- below a module stands the source alone
below_module : (s : State) (ts : List Lexeme) → Below table production.Source s production.Module ts → Fine table production.Source s ts → s ≡ from
below_module [] ts b f = absurd (different (sym b))
below_module (j ∷ []) ts b f =
    let m = asked_outer j.production j.done j.rest production.Module ts (inl refl) f.0 b in
    rw (← m.0, ← m.1, ← m.2) refl
below_module (j ∷ k ∷ s) ts b f =
    let m = asked_outer j.production j.done j.rest production.Module ts (inl refl) f.0 b in
    let n = asked_outer k.production k.done k.rest j.production (spells j.done ++ ts) (inr m.0) f.2.0 f.1 in
    absurd (different (sym m.0 ∙ n.3))

start_end : (t : Lexeme) → t.terminal ≡ terminal.End → grammar.stands (Is terminal.Start) t ≡ true → ⊥
unfolding Table.stands_of
start_end t e h = let k : stands_of (Is terminal.Start) terminal.End ≡ true = ap (stands_of (Is terminal.Start)) (sym e) ∙ h in cc

tail_end : (ps qs : List Constituent) (is : Nonterminal → Bool) (t : Lexeme) → Tail ps → t.terminal ≡ terminal.End → takes grammar is ps (Leaf t) ≡ Some qs → qs ≡ []
tail_end _ qs is t whole_rule e h = absurd (start_end t e (only_some (grammar.stands (Is terminal.Start) t) _ qs h).0)
tail_end _ qs is t in_list e h = cc
tail_end _ qs is t at_end e h = let m = (only_some (grammar.stands (Is terminal.End) t) _ qs h).1 in cc
tail_end _ qs is t over_it e h = cc

source_leaf : (r : Row) (t : Lexeme) (ps : List Constituent) → left grammar production.Source (Then r (Leaf t)) ≡ Some ps → ⊥
unfolding Table.rule_of
source_leaf Nil t ps h = cc
source_leaf (Then r x) t ps h =
    let m = after_is (left grammar production.Source (Then r x)) _ ps h in
    let k = rw (source_left r x m.0 m.1) at m.2 in
    cc

left_at : (f g : Production) (r : Row) (o : Option (List Constituent)) → f ≡ g → left grammar f r ≡ o → left grammar g r ≡ o
left_at f g r o e h = ap (λ x. left grammar x r) (sym e) ∙ h

pub top_end : (f : Production) (r : Row) (t : Lexeme) (ps : List Constituent) → t.terminal ≡ terminal.End → left grammar f (Then r (Leaf t)) ≡ Some ps → (f ≡ production.Module) × (ps ≡ [])
top_end f r t ps e h = by (outer f)
  where
    m : (qs : List Constituent) × (left grammar f r ≡ Some qs) × (takes grammar (is grammar (Leaf t)) qs (Leaf t) ≡ Some ps)
    m = after_is (left grammar f r) _ ps h

    by : Outer f ⊎ (closed (rule_of f) ≡ true) → (f ≡ production.Module) × (ps ≡ [])
    by (inr k) = absurd (closed_end (is grammar (Leaf t)) m.0 ps t (closed_left r f m.0 k m.1) e m.2)
    by (inl (inl g)) = (g, tail_end m.0 ps (is grammar (Leaf t)) t (left_tail r m.0 (left_at f production.Module r (Some m.0) g m.1)) e m.2)
    by (inl (inr g)) = absurd (source_leaf r t ps (left_at f production.Source (Then r (Leaf t)) (Some ps) g h))

-- what the reader has behind the end of a source is a module that stands whole
pub ends_whole : (ts : List Lexeme) (t : Lexeme) (q : State) → feeds table from (ts ++ t ∷ []) ≡ Some q → t.terminal ≡ terminal.End → (r : Row) × (q ≡ whole_state r)
ends_whole ts t q h e = by q (last_caps ts t from q h) (feeds_comes table production.Source start_opens wrap_may (ts ++ t ∷ []) from q from_fine h).0
  where
    by : (q : State) → Capped t q → Fine table production.Source q [] → (r : Row) × (q ≡ whole_state r)
    by [] c f = elim c [ ]
    by (i ∷ s) c f =
        let m = top_end i.production c.0 t i.rest e (ap (left grammar i.production) (sym c.1) ∙ f.0) in
        let P : Production → Type 0 = λ x. Below table production.Source s x (spells i.done ++ []) in
        let b = below_module s (spells i.done ++ []) (subst P m.0 f.1) f.2 in
        (i.done, rw (b, ← m.0, ← m.1) refl)
