-- The first line of the bytes that a line has begun with and of those that come next.
use Rattle.std.proofs.Common.{◌≡◌, ◌≢◌, ℕ, ◌+◌, ◌-◌, ◌<◌, ◌≤◌, ◌==◌, not, false, List, [], ◌++◌, length, take, drop, get_or, sym, ap, ◌∙◌, arith}
use Rattle.std.specs.List.{All, position_or_len}
use Rattle.std.proofs.lemmas.Bool.{eqb-false, ne_eqb}
use Rattle.std.proofs.lemmas.List.{length-append, length-take}
use Rattle.std.proofs.lemmas.List.Elements.{All-append}
use Rattle.std.proofs.lemmas.List.Folds.{prefix_len-append}
use Rattle.std.proofs.lemmas.List.Sums.{position_or_len_is}
use Rattle.std.proofs.Math.Seq.{drop-append-add, take-append-add, take-length}
use Rattle.std.proofs.Math.ListN.{drop_of_length-le}
use Rattle.lava_streams.proofs.LineLemmas.{line_of_long, line_of_short, All-line}
use Rattle.lava_streams.specs.Lines.{line_of}
use Rattle.lava_streams.specs.declared.source.TheConstants.{LINE_LIMIT}
use Rattle.lava_streams.specs.declared.source.Line.TheVariants.{Bytes, TooLong}
use Rattle.lava_system.specs.Adapters.{IsBegun}

-- none of the bytes is LF
all_before : (begun : List ℕ) → All (λ b. b ≢ 10) begun → position_or_len (λ b. b == 10) begun ≡ length begun
all_before begun none =
    position_or_len_is (λ b. b == 10) begun (length begun) 0 (omega arith) (λ k lt. ne_eqb (get_or begun k 0) 10 (none k 0 lt)) (λ lt. absurd (omega arith))

-- the first LF stands in the next bytes
first_lf : (begun next : List ℕ) → All (λ b. b ≢ 10) begun → length begun + position_or_len (λ b. b == 10) next ≡ position_or_len (λ b. b == 10) (begun ++ next)
first_lf begun next none = sym (prefix_len-append (λ b. not (b == 10)) begun next ∙ rw (all_before begun none) (grind arith))

positive : (n : ℕ) → (n == 0) ≡ false → 0 < n
positive n some = grind (arith, eqb-false n 0 some)

some_of : (begun next : List ℕ) → (length next == 0) ≡ false → (length (begun ++ next) == 0) ≡ false
some_of begun next some = ne_eqb (length (begun ++ next)) 0 (λ none. absurd (omega (arith, positive (length next) some, length-append begun next)))

-- the line is too long
pub long_line : (begun next : List ℕ) (end : ℕ) → IsBegun begun → (length next == 0) ≡ false → end ≡ position_or_len (λ b. b == 10) next → LINE_LIMIT - length begun < end
    → (TooLong, drop (LINE_LIMIT - length begun) next) ≡ line_of (begun ++ next)
long_line begun next end b some is long =
    let at : LINE_LIMIT ≡ length begun + (LINE_LIMIT - length begun) = omega (arith, b.0) in
    let left : drop LINE_LIMIT (begun ++ next) ≡ drop (LINE_LIMIT - length begun) next =
    ap (λ n. drop n (begun ++ next)) at ∙ drop-append-add begun next (LINE_LIMIT - length begun) in
    let first : length begun + end ≡ position_or_len (λ b. b == 10) (begun ++ next) = ap (λ n. length begun + n) is ∙ first_lf begun next b.1 in
    sym (line_of_long (begun ++ next) (length begun + end) (some_of begun next some) first (omega (arith, b.0)) ∙ ap (λ rest. (TooLong, rest)) left)

-- the line ends in the next bytes
pub short_line : (begun next : List ℕ) (end : ℕ) → IsBegun begun → (length next == 0) ≡ false → end ≡ position_or_len (λ b. b == 10) next → end ≤ LINE_LIMIT - length begun
    → (Bytes (begun ++ take end next), drop (end + 1) next) ≡ line_of (begun ++ next)
short_line begun next end b some is short =
    let first : length begun + end ≡ position_or_len (λ b. b == 10) (begun ++ next) = ap (λ n. length begun + n) is ∙ first_lf begun next b.1 in
    let line : take (length begun + end) (begun ++ next) ≡ begun ++ take end next = take-append-add begun next end in
    let at : length begun + end + 1 ≡ length begun + (end + 1) = omega arith in
    let left : drop (length begun + end + 1) (begun ++ next) ≡ drop (end + 1) next =
    ap (λ n. drop n (begun ++ next)) at ∙ drop-append-add begun next (end + 1) in
    sym (line_of_short (begun ++ next) (length begun + end) (some_of begun next some) first (omega (arith, b.0)) ∙ ap (λ l. (Bytes l, drop (length begun + end + 1) (begun ++ next))) line ∙ ap (λ rest. (Bytes (begun ++ take end next), rest)) left)

-- the line ends where the input does
pub last_line : (begun : List ℕ) → IsBegun begun → (length begun == 0) ≡ false → (Bytes begun, []) ≡ line_of begun
last_line begun b some =
    sym (line_of_short begun (length begun) some (sym (all_before begun b.1)) b.0 ∙ ap (λ l. (Bytes l, drop (length begun + 1) begun)) (take-length begun) ∙ ap (λ rest. (Bytes begun, rest)) (drop_of_length-le begun (omega arith)))

-- what a line has begun with, and more bytes before the first LF
pub begun_more : (begun next : List ℕ) (end : ℕ) → IsBegun begun → end ≡ position_or_len (λ b. b == 10) next → end ≤ LINE_LIMIT - length begun
    → IsBegun (begun ++ take end next)
begun_more begun next end b is short =
    (omega (arith, length-append begun (take end next), length-take end next, b.0), All-append (λ b. b ≢ 10) begun (take end next) b.1 (All-line next end is))
