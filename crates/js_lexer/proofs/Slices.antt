-- Tokens stand one after the other, and each one's text is the slice of its source.
use Rattle.std.proofs.Common.{◌≡◌, ◌≤◌, ◌+◌, ◌-◌, ℕ, Bool, true, false, cond, ◌==◌, List, [], ◌∷◌, ◌++◌, length, take, drop, All, Result, Ok, Err, IfOk, refl, sym, ap, subst, ◌∙◌, append_assoc, length-append, arith}
use Rattle.std.proofs.lemmas.List.{take_at, drop_at}
use Rattle.std.proofs.lemmas.List.Elements.{All-push, All-nil}
use Rattle.std.proofs.lemmas.Str.{encodes-append, encodes-chars}
use Rattle.std.specs.Char.{encode_utf8}
use Rattle.std.specs.Str.{chars, encode_utf8_all}
use Rattle.js_fault.specs.declared.fault.SyntaxFault.{SyntaxFault}
use Rattle.js_lexer.specs.declared.spot.Spot.{Spot}
use Rattle.js_lexer.specs.declared.token.Token.{Token}
use Rattle.js_lexer.specs.Answers.{StandInOrder}
use Rattle.js_lexer.specs.Elements.{IsElement}
use Rattle.js_lexer.specs.Grammar.{in_line}
use Rattle.js_lexer.specs.Nestings.{inside}
use Rattle.js_lexer.specs.Skipping.{skip, keep}
use Rattle.js_lexer.specs.Sources as sources
use Rattle.js_lexer.specs.Sources.{State, Takes, Run, IsTokens, opening, behind_mark, behind_hashbang, begins_hashbang, first_spot, token_between}
use Rattle.js_lexer.specs.Spelled.{IsTextOf}
use Rattle.js_lexer.specs.Spots.{over, over_all}
use Rattle.js_lexer.proofs.Lexer_laws.{keep_skip}
use Rattle.js_lexer.proofs.Tests.{equal}

-- characters take their bytes
bytes_over : (s : Spot) (w : List ℕ) → (over_all s w).offset ≡ s.offset + length (encode_utf8_all w)
bytes_over s [] = omega arith
bytes_over s (c ∷ w) = omega (arith, bytes_over (over s c) w, ap length (encodes-append (c ∷ []) w), length-append (encode_utf8 c) (encode_utf8_all w))

-- some bytes stand in front of what is left, as many as the spot counts
abbrev Fits : List ℕ → Spot → List ℕ → Type 0
Fits bytes s rest = (front : List ℕ) × (bytes ≡ front ++ encode_utf8_all rest) × (length front ≡ s.offset)

-- the same behind some text
fits_behind : (bytes : List ℕ) (s : Spot) (rest w left : List ℕ) → rest ≡ w ++ left → Fits bytes s rest → Fits bytes (over_all s w) left
fits_behind bytes s rest w left e (front, is, long) = (
  front ++ encode_utf8_all w,
  is ∙ ap (λ z. front ++ encode_utf8_all z) e ∙ ap (λ z. front ++ z) (encodes-append w left) ∙ sym (append_assoc front (encode_utf8_all w) (encode_utf8_all left)),
  omega (arith, long, bytes_over s w, length-append front (encode_utf8_all w)),
)

-- the bytes from one spot to the other are the text between them
between : (bytes : List ℕ) (s : Spot) (rest w left : List ℕ) → rest ≡ w ++ left → Fits bytes s rest → take ((over_all s w).offset - s.offset) (drop s.offset bytes) ≡ encode_utf8_all w
between bytes s rest w left e (front, is, long) =
    let behind : drop s.offset bytes ≡ encode_utf8_all w ++ encode_utf8_all left
    = ap (λ z. drop s.offset z) is ∙ drop_at front (encode_utf8_all rest) s.offset long ∙ ap encode_utf8_all e ∙ encodes-append w left in
    let size : length (encode_utf8_all w) ≡ (over_all s w).offset - s.offset = omega (arith, bytes_over s w) in
    ap (λ z. take ((over_all s w).offset - s.offset) z) behind ∙ take_at (encode_utf8_all w) (encode_utf8_all left) ((over_all s w).offset - s.offset) size

wider : (from : ℕ) (ts : List Token) (a b : ℕ) → a ≤ b → StandInOrder from ts a → StandInOrder from ts b
wider from [] a b h k = omega (arith, h, k)
wider from (t ∷ ts) a b h k = (k.0, k.1, wider t.to ts a b h k.2)

added : (from : ℕ) (ts : List Token) (t : Token) (a : ℕ) → a ≤ t.from → t.from ≤ t.to → StandInOrder from ts a → StandInOrder from (ts ++ t ∷ []) t.to
added from [] t a h k o = (omega (arith, h, o), k, omega arith)
added from (u ∷ ts) t a h k o = (o.0, o.1, added u.to ts t a h k o.2)

-- the tokens so far stand in order before the spot, and each is the slice of its text
abbrev Sliced : List ℕ → State → Type 0
Sliced bytes s = Fits bytes s.spot s.rest × StandInOrder 0 s.tokens s.spot.offset × All (IsTextOf bytes) s.tokens

sliced_behind : (bytes : List ℕ) (s : State) (w left : List ℕ) → s.rest ≡ w ++ left → Sliced bytes s → Sliced bytes (record { rest = left; spot = over_all s.spot w; opens = s.opens; tokens = s.tokens })
sliced_behind bytes s w left a (fits, order, texts) = (
  fits_behind bytes s.spot s.rest w left a fits,
  wider 0 s.tokens s.spot.offset (over_all s.spot w).offset (omega (arith, bytes_over s.spot w)) order,
  texts,
)

sliced_step : (bytes : List ℕ) (s t : State) → Sliced bytes s → Takes s t → Sliced bytes t
sliced_step bytes _ _ o (sources.gap s w left a h) = sliced_behind bytes s w left a o
sliced_step bytes _ _ (fits, order, texts) (sources.token s e kind w left a h k) =
    let t : Token = token_between s.spot (over_all s.spot w) kind in
    let text : IsTextOf bytes t = (inside s.opens, e, w, left, between bytes s.spot s.rest w left a fits, subst (λ z. IsElement (inside s.opens) e z left) a h, k) in (
      fits_behind bytes s.spot s.rest w left a fits,
      added 0 s.tokens t s.spot.offset (omega arith) (omega (arith, bytes_over s.spot w)) order,
      All-push (IsTextOf bytes) s.tokens t texts text,
    )

sliced_run : (bytes : List ℕ) (s t : State) → Sliced bytes s → Run s t → Sliced bytes t
sliced_run bytes _ _ o (sources.start s) = o
sliced_run bytes _ _ o (sources.further s t u r k) = sliced_step bytes t u (sliced_run bytes s t o r) k

three : length (encode_utf8_all (0xFEFF ∷ [])) ≡ 3
unfolding encode_utf8
three = refl

-- nothing is taken at the start
at_start : (bytes rest : List ℕ) (offset : ℕ) → Fits bytes (first_spot offset) rest → Sliced bytes (record { rest = rest; spot = first_spot offset; opens = []; tokens = [] })
at_start bytes rest offset fits = (fits, omega arith, All-nil (IsTextOf bytes))

sliced_mark : (bytes cs : List ℕ) → bytes ≡ encode_utf8_all cs → Sliced bytes (behind_mark cs)
sliced_mark bytes [] e = at_start bytes [] 0 ([], e, refl)
sliced_mark bytes (c ∷ cs) e = by_mark (c == 0xFEFF) refl
  where
    by_mark : (b : Bool) → (c == 0xFEFF) ≡ b →
        Sliced bytes (cond b (record { rest = cs; spot = first_spot 3; opens = []; tokens = [] }) (record { rest = c ∷ cs; spot = first_spot 0; opens = []; tokens = [] }))
    by_mark true h = at_start bytes cs 3 (encode_utf8_all (0xFEFF ∷ []), e ∙ ap (λ z. encode_utf8_all (z ∷ cs)) (equal c 0xFEFF h) ∙ encodes-append (0xFEFF ∷ []) cs, three)
    by_mark false h = at_start bytes (c ∷ cs) 0 ([], e, refl)

sliced_hashbang : (bytes : List ℕ) (s : State) → Sliced bytes s → Sliced bytes (behind_hashbang s)
sliced_hashbang bytes s o = by_hashbang (begins_hashbang s.rest)
  where
    by_hashbang : (b : Bool) → Sliced bytes (cond b (record { rest = skip in_line s.rest; spot = over_all s.spot (keep in_line s.rest); opens = s.opens; tokens = s.tokens }) s)
    by_hashbang true = sliced_behind bytes s (keep in_line s.rest) (skip in_line s.rest) (keep_skip in_line s.rest) o
    by_hashbang false = o

sliced : (bytes : List ℕ) (ts : List Token) → IsTokens bytes ts → StandInOrder 0 ts (length bytes) × All (IsTextOf bytes) ts
sliced bytes ts (u, (s, run, e, t)) =
    let start : Sliced bytes (behind_mark (chars bytes)) = sliced_mark bytes (chars bytes) (sym (encodes-chars bytes u)) in
    let o : Sliced bytes s = sliced_run bytes (opening (chars bytes)) s (sliced_hashbang bytes (behind_mark (chars bytes)) start) run in
    let within : s.spot.offset ≤ length bytes = omega (arith, o.0.2, ap length o.0.1, length-append o.0.0 (encode_utf8_all s.rest)) in
    subst (λ z. StandInOrder 0 z (length bytes) × All (IsTextOf bytes) z) t (wider 0 s.tokens s.spot.offset (length bytes) within o.1, o.2)

pub in_order : (bytes : List ℕ) (answer : Result (List Token) SyntaxFault) → IfOk answer (λ ts. IsTokens bytes ts) → IfOk answer (λ ts. StandInOrder 0 ts (length bytes))
in_order bytes (Ok ts) h = (sliced bytes ts h).0
in_order bytes (Err f) h = tt

pub texts_are_slices : (bytes : List ℕ) (answer : Result (List Token) SyntaxFault) → IfOk answer (λ ts. IsTokens bytes ts) → IfOk answer (λ ts. All (IsTextOf bytes) ts)
texts_are_slices bytes (Ok ts) h = (sliced bytes ts h).1
texts_are_slices bytes (Err f) h = tt
