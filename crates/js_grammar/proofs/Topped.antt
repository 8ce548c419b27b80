-- Behind each token the innermost open production has a part.
use Rattle.std.proofs.Common.{◌≡◌, Bool, true, false, List, [], ◌∷◌, Option, Some, None, refl, subst}
use Rattle.js_grammar.specs.declared.lexeme.Lexeme.{Lexeme}
use Rattle.js_grammar.specs.declared.symbols.Production.{Production}
use Rattle.js_grammar.specs.declared.constituents.Repetition.TheVariants.{Listed}
use Rattle.js_grammar.specs.declared.constituents.Constituent.{Constituent}
use Rattle.js_grammar.specs.declared.constituents.Constituent.TheVariants.{Token, Part, Optional, Further}
use Rattle.js_grammar.specs.Grammar.{Tree, Leaf, Node, Absent, Row, Nil, Then, only_if, follow}
use Rattle.js_grammar.specs.Machine.{Item, State, item, begun, opened, or_else, choose, onward, wrapped, joined, put, complete, feed}
use Rattle.js_grammar.specs.Table.{rule_of, ends_of}
use Rattle.js_grammar.specs.Fits.{grammar, table}
use Rattle.js_grammar.proofs.Ways.{is_nil}

-- the innermost open production has a part after each token
abbrev pub Topped : State → Type 0
Topped [] = ⊥
Topped (i ∷ s) = is_nil i.done ≡ false

abbrev pub Tops : Option State → Type 0
Tops o = (q : State) → o ≡ Some q → Topped q

tops_none : Tops None
tops_none q e = cc

tops_some : (i : Item) (s : State) → is_nil i.done ≡ false → Tops (Some (i ∷ s))
tops_some i s h q e = let same : i ∷ s ≡ q = cc in subst Topped same h

tops_if : (b : Bool) (o : Option State) → Tops o → Tops (only_if b o)
tops_if true o h = h
tops_if false o h = tops_none

begun_tops : (f : Production) (ps : List Constituent) (s : State) (t : Lexeme) → Tops (begun table f ps s t)
begun_tops f [] s t = tops_none
begun_tops f (Part c ∷ ps) s t = tops_none
begun_tops f (Optional c v ∷ ps) s t = tops_none
begun_tops f (Further c w ∷ ps) s t = tops_none
begun_tops f (Token w ∷ ps) s t = tops_if (grammar.stands w t) _ (tops_some (item f (Then Nil (Leaf t)) ps) s refl)

opened_tops : (fs : List Production) (s : State) (t : Lexeme) → Tops (opened table fs s t)
opened_tops [] s t = tops_none
opened_tops (f ∷ []) s t = begun_tops f (rule_of f) s t
opened_tops (f ∷ h ∷ fs) s t = opened_tops (h ∷ fs) (item f Nil (rule_of f) ∷ s) t

or_tops : (fs : List Production) (a b : Option State) → Tops a → Tops b → Tops (or_else fs a b)
or_tops [] a b x y = x
or_tops (f ∷ fs) a b x y = y

choose_tops : (v : Bool) (a b : Option State) → Tops a → Tops b → Tops (choose v a b)
choose_tops true a b x y = x
choose_tops false a b x y = y

joined_tops : (o : Option Production) (a : Option State) (w : Production → Option State) → Tops a → ((u : Production) → Tops (w u)) → Tops (joined o a w)
joined_tops None a w x y = x
joined_tops (Some u) a w x y = y u

abbrev Ends_topped : (Tree → Option State) → Type 0
Ends_topped ended = (x : Tree) → Tops (ended x)

onward_tops : (ended : Tree → Option State) (s : State) (f : Production) (r : Row) (ps : List Constituent) (t : Lexeme) → Ends_topped ended → Tops (onward table ended s f r ps t)
onward_tops ended s f r [] t e = e (Node f r)
onward_tops ended s f r (Token w ∷ ps) t e = tops_if (grammar.stands w t) _ (tops_some (item f (Then r (Leaf t)) ps) s refl)
onward_tops ended s f r (Part c ∷ ps) t e = opened_tops (table.start c t) _ t
onward_tops ended s f r (Optional c v ∷ ps) t e = or_tops (table.start c t) _ _ (onward_tops ended s f (Then r Absent) ps t e) (opened_tops (table.start c t) _ t)
onward_tops ended s f r (Further c w ∷ ps) t e = choose_tops (grammar.stands w t) _ _ (tops_some (item f (Then r (Leaf t)) (Optional c (Listed w) ∷ ps)) s refl) (onward_tops ended s f (Then r Absent) ps t e)

wrapped_tops : (f : Production) (ps : List Constituent) (s : State) (x : Tree) (t : Lexeme) → Tops (wrapped table f ps s x t)
wrapped_tops f [] s x t = tops_none
wrapped_tops f (Token w ∷ ps) s x t = tops_none
wrapped_tops f (Optional c v ∷ ps) s x t = tops_none
wrapped_tops f (Further c w ∷ ps) s x t = tops_none
wrapped_tops f (Part c ∷ []) s x t = tops_none
wrapped_tops f (Part c ∷ Part d ∷ ps) s x t = tops_none
wrapped_tops f (Part c ∷ Optional d v ∷ ps) s x t = tops_none
wrapped_tops f (Part c ∷ Further d w ∷ ps) s x t = tops_none
wrapped_tops f (Part c ∷ Token w ∷ ps) s x t = tops_if _ _ (tops_if (grammar.stands w t) _ (tops_some (item f (Then (Then Nil x) (Leaf t)) ps) s refl))

put_tops : (ended : Tree → Option State) (s : State) (f : Production) (r : Row) (ps : List Constituent) (x : Tree) (t : Lexeme) → Ends_topped ended → Tops (put table ended s f r ps x t)
put_tops ended s f r [] x t e = tops_none
put_tops ended s f r (Token w ∷ ps) x t e = tops_none
put_tops ended s f r (Further c w ∷ ps) x t e = tops_none
put_tops ended s f r (Part c ∷ ps) (Leaf u) t e = tops_none
put_tops ended s f r (Part c ∷ ps) Absent t e = tops_none
put_tops ended s f r (Part c ∷ ps) (Node h q) t e = joined_tops (table.wrap c h t) _ _ (tops_if _ _ (onward_tops ended s f (Then r (Node h q)) ps t e)) (λ u. wrapped_tops u (rule_of u) _ (Node h q) t)
put_tops ended s f r (Optional c v ∷ ps) (Leaf u) t e = tops_none
put_tops ended s f r (Optional c v ∷ ps) Absent t e = tops_none
put_tops ended s f r (Optional c v ∷ ps) (Node h q) t e = joined_tops (table.wrap c h t) _ _ (tops_if _ _ (onward_tops ended s f (Then r (Node h q)) (follow (ends_of h) c v ps) t e)) (λ u. wrapped_tops u (rule_of u) _ (Node h q) t)

complete_tops : (s : State) (t : Lexeme) → Ends_topped (λ x. complete table s x t)
complete_tops [] t x = tops_none
complete_tops (i ∷ s) t x = put_tops (λ y. complete table s y t) s i.production i.done i.rest x t (complete_tops s t)

pub feed_tops : (s : State) (t : Lexeme) → Tops (feed table s t)
feed_tops [] t = tops_none
feed_tops (i ∷ s) t = onward_tops (λ y. complete table s y t) s i.production i.done i.rest t (complete_tops s t)
