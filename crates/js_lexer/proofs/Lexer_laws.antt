-- The lexer's state, and that each element has some text.
use Rattle.std.proofs.Common.{◌≡◌, ◌<◌, ◌+◌, inl, inr, ℕ, Bool, true, false, cond, List, [], ◌∷◌, ◌++◌, length, Some, Ok, refl, sym, ap, subst, ◌∙◌, length-append, arith}
use Rattle.std.specs.Char.{encode_utf8}
use Rattle.std.specs.Str.{IsUtf8, chars, encode_utf8_all}
use Rattle.std.proofs.lemmas.Str.{encodes-append, encodes-chars}
use Rattle.js_lexer.specs.declared.element.Element.{Element}
use Rattle.js_lexer.specs.declared.element.Element.TheVariants as elements
use Rattle.js_lexer.specs.declared.punctuators.Punctuator.{Punctuator}
use Rattle.js_lexer.specs.declared.punctuators.Punctuator.TheVariants as punctuators
use Rattle.js_lexer.specs.declared.spot.Spot.{Spot}
use Rattle.js_lexer.specs.declared.token.TemplatePart.TheVariants as templates
use Rattle.js_lexer.specs.declared.token.TokenKind.{TokenKind}
use Rattle.js_lexer.specs.Elements.{Stands, gap}
use Rattle.js_lexer.specs.Grammar.{name, numeric_literal, string_literal, no_substitution_template, template_head, template_middle, template_tail}
use Rattle.js_lexer.specs.Nestings.{inside}
use Rattle.js_lexer.specs.Punctuators.{text_of}
use Rattle.js_lexer.specs.Rules.{Rule, Leads}
use Rattle.js_lexer.specs.Skipping.{skip, keep}
use Rattle.js_lexer.specs.Sources as sources
use Rattle.js_lexer.specs.Sources.{State, Takes, over_gap, over_token, pushed, IsKind}
use Rattle.js_lexer.specs.Spots.{over_all}
use Rattle.js_lexer.proofs.Derivatives.{may_be_empty, behind, front, reads_from}
use Rattle.js_lexer.specs.Scanning.{element_of}
use Rattle.js_lexer.proofs.Numbers_taken.{nothing_stands}
use Rattle.js_lexer.proofs.Runs.{taken_is_element}
use Rattle.js_lexer.proofs.Tests.{differ}

-- what is kept and what is skipped are the whole
pub keep_skip : (p : ℕ → Bool) (xs : List ℕ) → xs ≡ keep p xs ++ skip p xs
keep_skip p [] = refl
keep_skip p (c ∷ cs) = by_class (p c) (keep_skip p cs)
  where
    by_class : (b : Bool) → cs ≡ keep p cs ++ skip p cs → c ∷ cs ≡ cond b (c ∷ keep p cs) [] ++ cond b (skip p cs) (c ∷ cs)
    by_class true e = ap (λ z. c ∷ z) e
    by_class false e = refl

-- a rule that takes something makes the text shorter
shorter : (r : Rule) (c : ℕ) (cs ys : List ℕ) → may_be_empty r (Some c) ≡ false → Leads r (c ∷ cs) ys → length ys < length (c ∷ cs)
shorter r c cs ys e h = elim (reads_from r c cs ys h) [
  | inl i ↦ absurd (differ (may_be_empty r (Some c)) e i.0)
  | inr i ↦
      let k : (w : List ℕ) × (cs ≡ w ++ ys) = front (behind r c) cs ys i in
      omega (arith, ap length k.1 ∙ length-append k.0 ys)
]

abbrev is_empty : List ℕ → Bool
is_empty [] = true
is_empty (c ∷ cs) = false

some_text : (p : Punctuator) → is_empty (text_of p) ≡ false
some_text punctuators.LeftBrace = refl
some_text _ = refl

mark_shorter : (p : Punctuator) (xs ys : List ℕ) → xs ≡ text_of p ++ ys → length ys < length xs
mark_shorter p xs ys e = by_text (text_of p) (some_text p) e
  where
    by_text : (w : List ℕ) → is_empty w ≡ false → xs ≡ w ++ ys → length ys < length xs
    by_text [] h e = absurd (cc)
    by_text (c ∷ w) h e = omega (arith, ap length e ∙ length-append (c ∷ w) ys)

element_shorter : (within : Bool) (e : Element) (c : ℕ) (cs ys : List ℕ) → Stands within e (c ∷ cs) ys → length ys < length (c ∷ cs)
element_shorter within elements.Gap c cs ys h = shorter gap c cs ys refl h
element_shorter within elements.Word c cs ys h = shorter name c cs ys refl h
element_shorter within elements.Number c cs ys h = shorter (numeric_literal false) c cs ys refl h
element_shorter within elements.String c cs ys (inl h) = shorter (string_literal 34) c cs ys refl h
element_shorter within elements.String c cs ys (inr h) = shorter (string_literal 39) c cs ys refl h
element_shorter within (elements.Template templates.Whole) c cs ys h = shorter no_substitution_template c cs ys refl h
element_shorter within (elements.Template templates.Head) c cs ys h = shorter template_head c cs ys refl h
element_shorter within (elements.Template templates.Middle) c cs ys h = shorter template_middle c cs ys refl h.1
element_shorter within (elements.Template templates.Tail) c cs ys h = shorter template_tail c cs ys refl h.1
element_shorter within (elements.Punctuator p) c cs ys h = mark_shorter p (c ∷ cs) ys h.0.0.0

stands_shorter : (within : Bool) (e : Element) (xs ys : List ℕ) → Stands within e xs ys → length ys < length xs
stands_shorter within e [] ys h = absurd (nothing_stands within e ys h)
stands_shorter within e (c ∷ cs) ys h = element_shorter within e c cs ys h

-- each element makes what is left shorter
pub takes_shorter : (s t : State) → Takes s t → length t.rest < length s.rest
takes_shorter _ _ (sources.gap s w left a h) = stands_shorter (inside s.opens) elements.Gap s.rest left h.0
takes_shorter _ _ (sources.token s e kind w left a h k) = stands_shorter (inside s.opens) e s.rest left h.0

-- what an element takes is a front of the text
stands_front : (within : Bool) (e : Element) (xs ys : List ℕ) → Stands within e xs ys → (w : List ℕ) × (xs ≡ w ++ ys)
stands_front within elements.Gap xs ys h = front gap xs ys h
stands_front within elements.Word xs ys h = front name xs ys h
stands_front within elements.Number xs ys h = front (numeric_literal false) xs ys h
stands_front within elements.String xs ys (inl h) = front (string_literal 34) xs ys h
stands_front within elements.String xs ys (inr h) = front (string_literal 39) xs ys h
stands_front within (elements.Template templates.Whole) xs ys h = front no_substitution_template xs ys h
stands_front within (elements.Template templates.Head) xs ys h = front template_head xs ys h
stands_front within (elements.Template templates.Middle) xs ys h = front template_middle xs ys h.1
stands_front within (elements.Template templates.Tail) xs ys h = front template_tail xs ys h.1
stands_front within (elements.Punctuator p) xs ys h = (text_of p, h.0.0.0)

-- room for the places and offsets of a text
pub room_behind_mark : (bs cs : List ℕ) → IsUtf8 bs → chars bs ≡ 0xFEFF ∷ cs → 3 + length (encode_utf8_all cs) ≡ length bs
unfolding encode_utf8
room_behind_mark bs cs u e =
    omega (arith, ap length (sym (encodes-chars bs u) ∙ ap encode_utf8_all e ∙ encodes-append (0xFEFF ∷ []) cs), length-append (encode_utf8_all (0xFEFF ∷ [])) (encode_utf8_all cs), mark_bytes)
  where
    mark_bytes : length (encode_utf8_all (0xFEFF ∷ [])) ≡ 3
    mark_bytes = refl

pub room_at_start : (bs cs : List ℕ) → IsUtf8 bs → chars bs ≡ cs → length (encode_utf8_all cs) ≡ length bs
room_at_start bs cs u e = ap length (ap encode_utf8_all (sym e) ∙ encodes-chars bs u)

-- an element that is taken stands there, with some text
pub behind_taken : (within : Bool) (e : Element) (xs ys : List ℕ) → element_of within xs ≡ Ok (e, ys) → (w : List ℕ) × (xs ≡ w ++ ys)
behind_taken within e xs ys h = stands_front within e xs ys ((taken_is_element within xs e ys h).0)

pub gap_taken_so : (s : State) (ys : List ℕ) (spot : Spot) → element_of (inside s.opens) s.rest ≡ Ok (elements.Gap, ys) → ((w : List ℕ) → s.rest ≡ w ++ ys → spot ≡ over_all s.spot w) →
    Takes s (record { rest = ys; spot = spot; opens = s.opens; tokens = s.tokens })
gap_taken_so s ys spot h passes =
    let f : (w : List ℕ) × (s.rest ≡ w ++ ys) = behind_taken (inside s.opens) elements.Gap s.rest ys h in
    subst (λ z. Takes s (record { rest = ys; spot = z; opens = s.opens; tokens = s.tokens })) (sym (passes f.0 f.1))
    (sources.gap s f.0 ys f.1 (taken_is_element (inside s.opens) s.rest elements.Gap ys h))

pub token_taken_so : (s : State) (e : Element) (kind : TokenKind) (ys bytes : List ℕ) (spot : Spot) → element_of (inside s.opens) s.rest ≡ Ok (e, ys) → ((w : List ℕ) → s.rest ≡ w ++ ys → spot ≡ over_all s.spot w) →
    ((w : List ℕ) → s.rest ≡ w ++ ys → bytes ≡ encode_utf8_all w) → ((w : List ℕ) → bytes ≡ encode_utf8_all w → IsKind e w kind) → Takes s (pushed s e kind ys spot)
token_taken_so s e kind ys bytes spot h passes between is =
    let f : (w : List ℕ) × (s.rest ≡ w ++ ys) = behind_taken (inside s.opens) e s.rest ys h in
    subst (λ z. Takes s (pushed s e kind ys z)) (sym (passes f.0 f.1))
    (sources.token s e kind f.0 ys f.1 (taken_is_element (inside s.opens) s.rest e ys h) (is f.0 (between f.0 f.1)))
