-- The look ahead says what the reader does.
use Rattle.std.proofs.Common.{◌≡◌, Bool, true, false, ◌&&◌, ◌||◌, List, [], ◌∷◌, ◌++◌, Option, Some, None, refl, sym, ap, ◌∙◌, map, ◌+◌, ◌-◌, ◌≤◌, ◌<◌, length, take, get_or, arith}
use Rattle.std.proofs.Math.Seq.{take-length}
use Rattle.std.proofs.lemmas.List.{take_more}
use Rattle.js_grammar.specs.declared.lexeme.Lexeme.{Lexeme}
use Rattle.js_grammar.specs.declared.constituents.Constituent.{Constituent}
use Rattle.js_grammar.specs.declared.constituents.Constituent.TheVariants.{Token, Part, Optional, Further}
use Rattle.js_grammar.specs.declared.symbols.Production.{Production}
use Rattle.js_grammar.specs.declared.summary.Summary.{Summary}
use Rattle.js_grammar.specs.declared.event.Event.{Event}
use Rattle.js_grammar.specs.declared.nesting.Nesting.{Nesting}
use Rattle.js_grammar.specs.declared.event.Event.TheVariants as event
use Rattle.js_grammar.specs.Grammar.{follow, only_if}
use Rattle.js_grammar.specs.Table.{rule_of, ends_of, stands_of, start_of, wrap_of}
use Rattle.js_grammar.specs.Fits.{with_node, with_absent}
use Rattle.js_grammar.specs.Flat.{fit_by, Shape, Flat, chosen_of, or_opened, joined_to, begun_flat, opened_flat, onward_flat, wrapped_flat, put_flat, complete_flat, fed_flat}
use Rattle.js_grammar.specs.Laws.{is_some}
use Rattle.js_grammar.specs.Looks.{put_looks}
use Rattle.js_grammar.specs.Moves.{shapes_of, shape_in}
use Rattle.js_grammar.specs.declared.open.OpenProduction.{OpenProduction}
use Rattle.js_grammar.proofs.Reversed.{reverse_push}
use Rattle.js_grammar.specs.Would.{begun_would, opened_would, or_would, onward_would, wrapped_would, joined_would, put_would, complete_would, would}

only_some_is : (b : Bool) (q : Flat) → is_some (only_if b (Some q)) ≡ b
only_some_is true q = refl
only_some_is false q = refl

only_is : (b v : Bool) (o : Option Flat) → is_some o ≡ v → is_some (only_if b o) ≡ (b && v)
only_is true v o e = e
only_is false v o e = refl

begun_is : (f : Production) (ps : List Constituent) (s : List Shape) (o : List Event) (t : Lexeme) → is_some (begun_flat f ps s o t) ≡ begun_would ps t
begun_is f [] s o t = refl
begun_is f (Part c ∷ ps) s o t = refl
begun_is f (Optional c k ∷ ps) s o t = refl
begun_is f (Further c w ∷ ps) s o t = refl
begun_is f (Token w ∷ ps) s o t = only_some_is (stands_of w t.terminal) _

opened_is : (fs : List Production) (s : List Shape) (o : List Event) (t : Lexeme) → is_some (opened_flat fs s o t) ≡ opened_would fs t
opened_is [] s o t = refl
opened_is (f ∷ []) s o t = begun_is f (rule_of f) s o t
opened_is (f ∷ h ∷ fs) s o t = opened_is (h ∷ fs) _ o t

-- what no production opens
pub not_opened : (fs : List Production) (s : List Shape) (o : List Event) (t : Lexeme) → opened_would fs t ≡ false → opened_flat fs s o t ≡ None
not_opened fs s o t h = go (opened_flat fs s o t) (opened_is fs s o t ∙ h)
  where
    go : (x : Option Flat) → is_some x ≡ false → x ≡ None
    go None e = refl
    go (Some q) e = cc

or_is : (fs : List Production) (a b : Option Flat) (x y : Bool) → is_some a ≡ x → is_some b ≡ y → is_some (or_opened fs a b) ≡ or_would fs x y
or_is [] a b x y e k = e
or_is (f ∷ fs) a b x y e k = k

choose_is : (v : Bool) (q : Flat) (b : Option Flat) (y : Bool) → is_some b ≡ y → is_some (chosen_of v (Some q) b) ≡ (v || y)
choose_is true q b y k = refl
choose_is false q b y k = k

joined_is : (o : Option Production) (a : Option Flat) (x : Bool) (w : Production → Option Flat) (v : Production → Bool) → is_some a ≡ x → ((f : Production) → is_some (w f) ≡ v f) → is_some (joined_to o a w) ≡ joined_would o x v
joined_is None a x w v e k = e
joined_is (Some f) a x w v e k = k f

abbrev Ended : (Production → Summary → List Event → Option Flat) → (Production → Summary → Bool) → Type 0
Ended flatly ended = (f : Production) (m : Summary) (o : List Event) → is_some (flatly f m o) ≡ ended f m

onward_is : (flatly : Production → Summary → List Event → Option Flat) (ended : Production → Summary → Bool) (s : List Shape) (o : List Event) (f : Production) (m : Summary) (b : Nesting) (ps : List Constituent) (t : Lexeme) → Ended flatly ended → is_some (onward_flat flatly s o f m b ps t) ≡ onward_would ended f m ps t
onward_is flatly ended s o f m b [] t e = e f m (event.Node f m.parts ∷ o)
onward_is flatly ended s o f m b (Token w ∷ ps) t e = only_some_is (stands_of w t.terminal) _
onward_is flatly ended s o f m b (Part c ∷ ps) t e = opened_is (start_of c t.terminal t.after_line) _ o t
onward_is flatly ended s o f m b (Optional c k ∷ ps) t e = or_is (start_of c t.terminal t.after_line) _ _ _ _ (onward_is flatly ended s (event.Absent ∷ o) f (with_absent m) b ps t e) (opened_is (start_of c t.terminal t.after_line) _ o t)
onward_is flatly ended s o f m b (Further c w ∷ ps) t e = choose_is (stands_of w t.terminal) _ _ _ (onward_is flatly ended s (event.Absent ∷ o) f (with_absent m) b ps t e)

wrapped_is : (f : Production) (ps : List Constituent) (s : List Shape) (o : List Event) (h : Production) (x : Summary) (t : Lexeme) → is_some (wrapped_flat f ps s o h x t) ≡ wrapped_would ps h x t
wrapped_is f [] s o h x t = refl
wrapped_is f (Token w ∷ ps) s o h x t = refl
wrapped_is f (Optional c k ∷ ps) s o h x t = refl
wrapped_is f (Further c k ∷ ps) s o h x t = refl
wrapped_is f (Part c ∷ []) s o h x t = refl
wrapped_is f (Part c ∷ Part d ∷ ps) s o h x t = refl
wrapped_is f (Part c ∷ Optional d k ∷ ps) s o h x t = refl
wrapped_is f (Part c ∷ Further d k ∷ ps) s o h x t = refl
wrapped_is f (Part c ∷ Token w ∷ ps) s o h x t = only_is (fit_by c h x) (stands_of w t.terminal) _ (only_some_is (stands_of w t.terminal) _)

put_is : (flatly : Production → Summary → List Event → Option Flat) (ended : Production → Summary → Bool) (s : List Shape) (o : List Event) (f : Production) (m : Summary) (b : Nesting) (ps : List Constituent) (h : Production) (x : Summary) (t : Lexeme) → Ended flatly ended → is_some (put_flat flatly s o f m b ps h x t) ≡ put_would ended f m ps h x t
put_is flatly ended s o f m b [] h x t e = refl
put_is flatly ended s o f m b (Token w ∷ ps) h x t e = refl
put_is flatly ended s o f m b (Further c w ∷ ps) h x t e = refl
put_is flatly ended s o f m b (Part c ∷ ps) h x t e =
    joined_is (wrap_of c h t.terminal) _ _ _ _ (only_is (fit_by c h x) _ _ (onward_is flatly ended s o f (with_node m h x) b ps t e)) (λ u. wrapped_is u (rule_of u) _ o h x t)
put_is flatly ended s o f m b (Optional c k ∷ ps) h x t e =
    joined_is (wrap_of c h t.terminal) _ _ _ _ (only_is (fit_by c h x) _ _ (onward_is flatly ended s o f (with_node m h x) b (follow (ends_of h) c k ps) t e)) (λ u. wrapped_is u (rule_of u) _ o h x t)

complete_is : (s : List Shape) (t : Lexeme) → Ended (λ f m o. complete_flat s o f m t) (λ f m. complete_would s f m t)
complete_is [] t f m o = refl
complete_is (i ∷ s) t f m o = put_is (λ f m o. complete_flat s o f m t) (λ f m. complete_would s f m t) s o i.production i.summary i.nesting i.rest f m t (complete_is s t)

-- the lexeme is taken exactly where the look ahead says so
pub would_is : (s : List Shape) (o : List Event) (t : Lexeme) → is_some (fed_flat s o t) ≡ would s t
would_is [] o t = refl
would_is (i ∷ s) o t = onward_is (λ f m o. complete_flat s o f m t) (λ f m. complete_would s f m t) s o i.production i.summary i.nesting i.rest t (complete_is s t)

-- what ends above an open production goes on below it
completes : (below : List OpenProduction) (top : OpenProduction) (h : Production) (x : Summary) (t : Lexeme) (f : Production) (m : Summary) → ((k : Production → Summary → Bool) → put_looks top h x t k ≡ k f m) → complete_would (shapes_of (below ++ top ∷ [])) h x t ≡ complete_would (shapes_of below) f m t
completes below top h x t f m e = ap (λ s. complete_would (map shape_in s) h x t) (reverse_push below top) ∙ e (λ f m. complete_would (shapes_of below) f m t)

last_apart : (xs : List OpenProduction) (d : OpenProduction) → 1 ≤ length xs → take (length xs - 1) xs ++ get_or xs (length xs - 1) d ∷ [] ≡ xs
last_apart xs d h =
    let less : length xs - 1 < length xs = omega arith in
    let same : length xs - 1 + 1 ≡ length xs = omega arith in
    sym (take_more xs (length xs - 1) d less) ∙ ap (λ n. take n xs) same ∙ take-length xs

pub completes_at : (items : List OpenProduction) (d : OpenProduction) (h : Production) (x : Summary) (t : Lexeme) (f : Production) (m : Summary) → 1 ≤ length items → ((k : Production → Summary → Bool) → put_looks (get_or items (length items - 1) d) h x t k ≡ k f m) → complete_would (shapes_of items) h x t ≡ complete_would (shapes_of (take (length items - 1) items)) f m t
completes_at items d h x t f m p e = sym (ap (λ y. complete_would (shapes_of y) h x t) (last_apart items d p)) ∙ completes (take (length items - 1) items) (get_or items (length items - 1) d) h x t f m e
