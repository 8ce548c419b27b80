-- A source is divided into elements in one way.
use Rattle.std.proofs.Common.{◌≡◌, ◌⊎◌, inl, inr, ℕ, Bool, List, [], ◌++◌, Ok, Err, refl, sym, ap, subst, ◌∙◌}
use Rattle.std.proofs.lemmas.List.{append_cancel_right}
use Rattle.std.specs.Str.{encode_utf8_all}
use Rattle.js_lexer.specs.declared.element.Element.{Element}
use Rattle.js_lexer.specs.declared.element.Element.TheVariants as elements
use Rattle.js_lexer.specs.declared.element.Form.{Form}
use Rattle.js_lexer.specs.declared.element.NoElement.TheVariants.{Stopped, LeftOut}
use Rattle.js_lexer.specs.declared.keywords.Keyword.{Keyword}
use Rattle.js_lexer.specs.declared.machine.Stop.{Stop}
use Rattle.js_lexer.specs.declared.token.TokenKind.{TokenKind}
use Rattle.js_lexer.specs.declared.token.TokenKind.TheVariants as kinds
use Rattle.js_lexer.specs.Elements.{IsElement, Shows, StandsNone}
use Rattle.js_lexer.specs.Keywords.{keyword_text, keyword_named}
use Rattle.js_lexer.specs.Nestings.{inside}
use Rattle.js_lexer.specs.Scanning.{Taking, element_of}
use Rattle.js_lexer.specs.Sources.{State, IsKind, over_gap, over_token, Takes, gap, token, Run, start, further}
use Rattle.js_lexer.proofs.Exactly.{Exactly}
use Rattle.js_lexer.proofs.Keyword_laws.{keyword_exact}
use Rattle.js_lexer.proofs.Numbers_taken.{element_exactly}
use Rattle.js_lexer.proofs.Tests.{same_some}

-- what is left decides what was in front of it
front_cancel : (v w xs : List ℕ) → v ++ xs ≡ w ++ xs → v ≡ w
front_cancel v w xs h = append_cancel_right v w xs h

-- one kind at most
gap_kind : (w : List ℕ) (k : TokenKind) → IsKind elements.Gap w k → ⊥
gap_kind w kinds.Name h = h
gap_kind w _ h = h

some_keyword : (w : List ℕ) (k l : Keyword) → keyword_text k ≡ w → keyword_text l ≡ w → k ≡ l
some_keyword w k l h g = same_some (keyword_named w) k l ((keyword_exact w k).0 h) ((keyword_exact w l).0 g)

pub one_kind : (e : Element) (w : List ℕ) (k l : TokenKind) → IsKind e w k → IsKind e w l → k ≡ l
one_kind elements.Word w kinds.Name kinds.Name h g = refl
one_kind elements.Word w kinds.Name (kinds.Keyword l) h g = absurd (h l g)
one_kind elements.Word w (kinds.Keyword k) kinds.Name h g = absurd (g k h)
one_kind elements.Word w (kinds.Keyword k) (kinds.Keyword l) h g = ap kinds.Keyword (some_keyword (encode_utf8_all w) k l h g)
one_kind elements.Number w kinds.Number kinds.Number h g = refl
one_kind elements.String w kinds.String kinds.String h g = refl
one_kind (elements.Template part) w (kinds.Template p) (kinds.Template q) h g = ap kinds.Template (h ∙ sym g)
one_kind (elements.Punctuator mark) w (kinds.Punctuator p) (kinds.Punctuator q) h g = ap kinds.Punctuator (h ∙ sym g)
one_kind _ w _ _ h g = absurd (search depth 0)

-- one element at most stands at the start of a text
both_stand : (within : Bool) (xs : List ℕ) (t : Taking) → Exactly within xs t → (e f : Element) (ys zs : List ℕ) → IsElement within e xs ys → IsElement within f xs zs → (e ≡ f) × (ys ≡ zs)
both_stand within xs (Ok r) ex e f ys zs h g =
    let i : (e ≡ r.0) × (ys ≡ r.1) = ex.1 e ys h.0 in
    let j : (f ≡ r.0) × (zs ≡ r.1) = ex.1 f zs g.0 in
    (i.0 ∙ sym j.0, i.1 ∙ sym j.1)
both_stand within xs (Err (Stopped stop)) ex e f ys zs h g = absurd (ex.0 e ys h.0)
both_stand within xs (Err (LeftOut form)) ex e f ys zs h g = absurd (h.1 form ex.0)

pub one_element : (within : Bool) (xs : List ℕ) (e f : Element) (ys zs : List ℕ) → IsElement within e xs ys → IsElement within f xs zs → (e ≡ f) × (ys ≡ zs)
one_element within xs e f ys zs h g = both_stand within xs (element_of within xs) (element_exactly within xs) e f ys zs h g

-- what follows from what is taken
to_taken : (within : Bool) (xs : List ℕ) (t : Taking) → Exactly within xs t → (e : Element) (ys : List ℕ) → IsElement within e xs ys → t ≡ Ok (e, ys)
to_taken within xs (Ok (f, zs)) ex e ys h = let i : (e ≡ f) × (ys ≡ zs) = ex.1 e ys h.0 in ap (λ z. Ok (z, zs)) (sym i.0) ∙ ap (λ z. Ok (e, z)) (sym i.1)
to_taken within xs (Err (Stopped stop)) ex e ys h = absurd (ex.0 e ys h.0)
to_taken within xs (Err (LeftOut form)) ex e ys h = absurd (h.1 form ex.0)

pub taken_is_element : (within : Bool) (xs : List ℕ) (e : Element) (ys : List ℕ) → element_of within xs ≡ Ok (e, ys) → IsElement within e xs ys
taken_is_element within xs e ys h =
    let ex : Exactly within xs (Ok (e, ys)) = subst (Exactly within xs) h (element_exactly within xs) in (ex.0, ex.2)

pub left_out_shows : (within : Bool) (xs : List ℕ) (form : Form) → element_of within xs ≡ Err (LeftOut form) → Shows form xs
left_out_shows within xs form h = let ex : Exactly within xs (Err (LeftOut form)) = subst (Exactly within xs) h (element_exactly within xs) in ex.0

pub stopped_is_none : (within : Bool) (xs : List ℕ) (stop : Stop) → element_of within xs ≡ Err (Stopped stop) → StandsNone within xs
stopped_is_none within xs stop h = subst (Exactly within xs) h (element_exactly within xs)

-- a step is the only one
gap_and_gap : (s : State) (v w ys zs : List ℕ) → s.rest ≡ v ++ ys → s.rest ≡ w ++ zs → ys ≡ zs → over_gap s v ys ≡ over_gap s w zs
gap_and_gap s v w ys zs a b e =
    let f : v ≡ w = front_cancel v w zs (sym (a ∙ ap (λ z. v ++ z) e) ∙ b) in
    ap (λ z. over_gap s z ys) f ∙ ap (λ z. over_gap s w z) e

token_and_token : (s : State) (e f : Element) (k l : TokenKind) (v w ys zs : List ℕ) → s.rest ≡ v ++ ys → s.rest ≡ w ++ zs → IsKind e v k → IsKind f w l → e ≡ f → ys ≡ zs → over_token s e k v ys ≡ over_token s f l w zs
token_and_token s e f k l v w ys zs a b h g i j =
    let same : v ≡ w = front_cancel v w zs (sym (a ∙ ap (λ z. v ++ z) j) ∙ b) in
    let kind : k ≡ l = one_kind f w k l (subst (λ z. IsKind z w k) i (subst (λ z. IsKind e z k) same h)) g in
    ap (λ z. over_token s z k v ys) i ∙ ap (λ z. over_token s f z v ys) kind ∙ ap (λ z. over_token s f l z ys) same ∙ ap (λ z. over_token s f l w z) j

pub one_step : (s t u : State) → Takes s t → Takes s u → t ≡ u
one_step _ _ _ (gap s v ys a h) (gap _ w zs b g) = gap_and_gap s v w ys zs a b ((one_element (inside s.opens) s.rest elements.Gap elements.Gap ys zs h g).1)
one_step _ _ _ (gap s v ys a h) (token _ f l w zs b g k) =
    absurd (gap_kind w l (subst (λ z. IsKind z w l) (sym ((one_element (inside s.opens) s.rest elements.Gap f ys zs h g).0)) k))
one_step _ _ _ (token s e k v ys a h i) (gap _ w zs b g) =
    absurd (gap_kind v k (subst (λ z. IsKind z v k) ((one_element (inside s.opens) s.rest e elements.Gap ys zs h g).0) i))
one_step _ _ _ (token s e k v ys a h i) (token _ f l w zs b g j) =
    let same : (e ≡ f) × (ys ≡ zs) = one_element (inside s.opens) s.rest e f ys zs h g in
    token_and_token s e f k l v w ys zs a b i j same.0 same.1

-- the first step of a run
first_step : (s t : State) → Run s t → (s ≡ t) ⊎ ((u : State) × Takes s u × Run u t)
first_step _ _ (start s) = inl refl
first_step _ _ (further s t u r k) = by_front (first_step s t r)
  where
    by_front : (s ≡ t) ⊎ ((v : State) × Takes s v × Run v t) → (s ≡ u) ⊎ ((v : State) × Takes s v × Run v u)
    by_front (inl e) = inr (u, subst (λ z. Takes z u) (sym e) k, start u)
    by_front (inr (v, h, q)) = inr (v, h, further v t u q k)

-- of two runs from one state, one goes on as the other
meet : (s t u : State) → Run s t → Run s u → Run t u ⊎ Run u t
meet _ t _ r (start s) = inr r
meet _ t _ r (further s v u q k) = by_front (meet s t v r q)
  where
    one_more : Run v t → (v ≡ t) ⊎ ((w : State) × Takes v w × Run w t) → Run t u ⊎ Run u t
    one_more p (inl e) = inl (further t v u (subst (λ z. Run t z) (sym e) (start t)) k)
    one_more p (inr (w, h, o)) = inr (subst (λ z. Run z t) (one_step v w u h k) o)

    by_front : Run t v ⊎ Run v t → Run t u ⊎ Run u t
    by_front (inl p) = inl (further t v u p k)
    by_front (inr p) = one_more p (first_step v t p)

-- a state from which no step leads
abbrev pub Ends : State → Type 0
Ends s = (t : State) → Takes s t → ⊥

stays : (s t : State) → Ends s → Run s t → s ≡ t
stays s t e r = elim (first_step s t r) [
  | inl h ↦ h
  | inr h ↦ absurd (e h.0 h.1)
]

-- two runs that end come to one state
pub one_end : (s t u : State) → Run s t → Run s u → Ends t → Ends u → t ≡ u
one_end s t u r q e f = elim (meet s t u r q) [
  | inl h ↦ stays t u e h
  | inr h ↦ sym (stays u t f h)
]

-- no step leads from where nothing stands, and none from where a form that is left out does
takes_element : (s t : State) → Takes s t → (e : Element) × (ys : List ℕ) × IsElement (inside s.opens) e s.rest ys
takes_element _ _ (gap s w left a h) = (elements.Gap, left, h)
takes_element _ _ (token s e kind w left a h k) = (e, left, h)

pub none_ends : (s : State) → StandsNone (inside s.opens) s.rest → Ends s
none_ends s n t h = let k : (e : Element) × (ys : List ℕ) × IsElement (inside s.opens) e s.rest ys = takes_element s t h in n.0 k.0 k.1 k.2.0

pub shows_ends : (s : State) (form : Form) → Shows form s.rest → Ends s
shows_ends s form n t h = let k : (e : Element) × (ys : List ℕ) × IsElement (inside s.opens) e s.rest ys = takes_element s t h in k.2.1 form n

pub empty_ends : (s : State) → s.rest ≡ [] → Ends s
empty_ends s e = none_ends s (subst (λ z. StandsNone (inside s.opens) z) (sym e) (element_exactly (inside s.opens) []))
