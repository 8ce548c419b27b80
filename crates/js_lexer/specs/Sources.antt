-- How a source is divided into tokens: from its start, one element after the other.
use Rattle.std.specs.Prelude.{◌≡◌, ℕ, ◌==◌, ◌&&◌, Bool, true, false, if◌then◌else◌, List, [], ◌∷◌, ◌++◌, ◌⊎◌, take}
use Rattle.std.specs.Str.{IsUtf8, IsValidUpTo, chars, encode_utf8_all}
use Rattle.lava_base.specs.declared.place.Place.{Place}
use Rattle.js_lexer.specs.declared.element.Element.{Element}
use Rattle.js_lexer.specs.declared.element.Element.TheVariants as elements
use Rattle.js_lexer.specs.declared.element.Form.{Form}
use Rattle.js_lexer.specs.declared.keywords.Keyword.{Keyword}
use Rattle.js_lexer.specs.declared.nesting.Open.{Open}
use Rattle.js_lexer.specs.declared.spot.Spot.{Spot}
use Rattle.js_lexer.specs.declared.token.Token.{Token}
use Rattle.js_lexer.specs.declared.token.TokenKind.{TokenKind}
use Rattle.js_lexer.specs.declared.token.TokenKind.TheVariants as kinds
use Rattle.js_lexer.specs.Elements.{IsElement, StandsNone, Stands, Shows}
use Rattle.js_lexer.specs.Grammar.{in_line}
use Rattle.js_lexer.specs.Keywords.{keyword_text}
use Rattle.js_lexer.specs.Nestings.{inside, nested}
use Rattle.js_lexer.specs.Skipping.{skip, keep}
use Rattle.js_lexer.specs.Spots.{over_all, place_at}

-- how far a source is read: the characters that are left, how
-- far that is, what is open there, and the tokens so far
pub record State : Type 0 where
  pub rest : List ℕ
  pub spot : Spot
  pub opens : List Open
  pub tokens : List Token

-- the kind of the token that an element with this text is.
-- A name that is a reserved word is a keyword
-- ECMA-262 Keywords and Reserved Words, ReservedWord
abbrev pub IsKind : Element → List ℕ → TokenKind → Type 0
IsKind elements.Word w (kinds.Keyword k) = keyword_text k ≡ encode_utf8_all w
IsKind elements.Word w kinds.Name = (k : Keyword) → ¬ (keyword_text k ≡ encode_utf8_all w)
IsKind elements.Number w kinds.Number = Unit {0}
IsKind elements.String w kinds.String = Unit {0}
IsKind (elements.Template part) w (kinds.Template p) = p ≡ part
IsKind (elements.Punctuator mark) w (kinds.Punctuator p) = p ≡ mark
IsKind _ _ _ = ⊥

-- the token between two spots
abbrev pub token_between : Spot → Spot → TokenKind → Token
token_between from to kind = record {
  start = from.place;
  from = from.offset;
  to = to.offset;
  kind = kind;
  after_line = from.after_line;
}

-- a spot behind a token
abbrev pub behind_token : Spot → Spot
behind_token s =
    record { place = s.place; offset = s.offset; after_return = s.after_return; after_line = false }

-- the state behind a token whose text ends at a spot
abbrev pub pushed : State → Element → TokenKind → List ℕ → Spot → State
pushed s e kind left to = record {
  rest = left;
  spot = behind_token to;
  opens = nested e s.opens;
  tokens = s.tokens ++ token_between s.spot to kind ∷ [];
}

-- the state behind a gap, and behind a token, with the text w
abbrev pub over_gap : State → List ℕ → List ℕ → State
over_gap s w left =
    record { rest = left; spot = over_all s.spot w; opens = s.opens; tokens = s.tokens }

abbrev pub over_token : State → Element → TokenKind → List ℕ → List ℕ → State
over_token s e kind w left = pushed s e kind left (over_all s.spot w)

-- one element more is taken: the one that stands there
-- ECMA-262 ECMAScript Language: Lexical Grammar
pub data Takes : State → State → Type 0 where
  gap : (s : State) (w left : List ℕ) → s.rest ≡ w ++ left →
      IsElement (inside s.opens) elements.Gap s.rest left →
      Takes s (over_gap s w left)
  token : (s : State) (e : Element) (kind : TokenKind) (w left : List ℕ) → s.rest ≡ w ++ left →
      IsElement (inside s.opens) e s.rest left → IsKind e w kind →
      Takes s (over_token s e kind w left)

-- any number of elements, one after the other
-- ECMA-262 ECMAScript Language: Lexical Grammar
pub data Run : State → State → Type 0 where
  start : (s : State) → Run s s
  further : (s t u : State) → Run s t → Takes t u → Run s u

-- the start of a source

abbrev pub first_spot : ℕ → Spot
first_spot offset =
    record { place = place_at 1 1; offset = offset; after_return = false; after_line = false }

-- a leading byte order mark is dropped, and is no unit of the first line
-- own: the standard reads it as white space, and leaves dropping it to the host
abbrev pub behind_mark : List ℕ → State
behind_mark [] = record { rest = []; spot = first_spot 0; opens = []; tokens = [] }
behind_mark (c ∷ cs) =
    if c == 0xFEFF then record { rest = cs; spot = first_spot 3; opens = []; tokens = [] }
    else record { rest = c ∷ cs; spot = first_spot 0; opens = []; tokens = [] }

abbrev pub begins_hashbang : List ℕ → Bool
begins_hashbang [] = false
begins_hashbang (c ∷ []) = false
begins_hashbang (c ∷ d ∷ cs) = c == 35 && d == 33

-- a leading `#!` line is dropped, but for its end
-- ECMA-262 Hashbang Comments, HashbangComment
abbrev pub behind_hashbang : State → State
behind_hashbang s =
    if begins_hashbang s.rest
    then record { rest = skip in_line s.rest; spot = over_all s.spot (keep in_line s.rest); opens = s.opens; tokens = s.tokens }
    else s

abbrev pub opening : List ℕ → State
opening cs = behind_hashbang (behind_mark cs)

-- the answers

-- the tokens of a source: it is UTF-8, and they are what it is divided into
-- ECMA-262 ECMAScript Language: Lexical Grammar
-- Unicode UTF-8
abbrev pub IsTokens : List ℕ → List Token → Type 0
IsTokens bytes tokens =
    IsUtf8 bytes
    × ((s : State) × Run (opening (chars bytes)) s × (s.rest ≡ []) × (s.tokens ≡ tokens))

-- the place behind the last character of a source
-- own: a place counts lines and units from 1, without a leading byte order mark
abbrev pub end_place : List ℕ → Place
end_place bytes = (over_all (opening (chars bytes)).spot (opening (chars bytes)).rest).place

-- the longest front of a source that is UTF-8, with whether it is the whole
-- Unicode UTF-8
abbrev pub IsFront : List ℕ → List ℕ → Bool → Type 0
IsFront bytes front true = IsUtf8 bytes × (front ≡ bytes)
IsFront bytes front false =
    ¬ (IsUtf8 bytes) × ((n : ℕ) × IsValidUpTo bytes n × (front ≡ take n bytes))

-- no element stands at the start of the text, and none will whatever
-- follows it; where it is the end of a source, nothing follows
abbrev pub IsBad : Bool → Bool → List ℕ → Type 0
IsBad true inside xs = ¬ (xs ≡ []) × StandsNone inside xs
IsBad false inside xs = (more : List ℕ) → StandsNone inside (xs ++ more)

-- the source is refused at this place with a bad token
-- own: which of several faults is told, and where
abbrev pub IsBadToken : List ℕ → Place → Type 0
IsBadToken bytes place =
    (front : List ℕ) × (whole : Bool) × IsFront bytes front whole
    × ((s : State) × Run (opening (chars front)) s × (s.spot.place ≡ place)
    × IsBad whole (inside s.opens) s.rest)

-- the source is refused at this place with a form that the profile leaves out
-- own: the profile refuses these forms by name
abbrev pub IsUnsupported : List ℕ → Place → Form → Type 0
IsUnsupported bytes place form =
    (front : List ℕ) × (whole : Bool) × IsFront bytes front whole
    × ((s : State) × Run (opening (chars front)) s × (s.spot.place ≡ place) × Shows form s.rest)

-- an element or a form that is left out stands at the start of the text
abbrev pub StandsSome : Bool → List ℕ → Type 0
StandsSome inside xs =
    ((e : Element) × (ys : List ℕ) × Stands inside e xs ys) ⊎ ((form : Form) × Shows form xs)

-- the text ends here, or inside an element: none stands
-- at its start, but one would if more followed
abbrev pub IsCut : Bool → List ℕ → Type 0
IsCut inside xs =
    (xs ≡ []) ⊎ (StandsNone inside xs × ((more : List ℕ) × StandsSome inside (xs ++ more)))

-- the source is refused since its bytes are not UTF-8: at the place behind the characters in front
-- of the bad byte, where these are elements up to there, or up to one that runs into it
-- own: a source is bytes, and those that are not UTF-8 are refused
abbrev pub IsNotUtf8 : List ℕ → Place → Type 0
IsNotUtf8 bytes place =
    (front : List ℕ) × IsFront bytes front false
    × ((s : State) × Run (opening (chars front)) s × ((over_all s.spot s.rest).place ≡ place)
    × IsCut (inside s.opens) s.rest)
