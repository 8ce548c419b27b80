-- The first line by its length.
use Rattle.std.proofs.Common.{◌≡◌, ◌≢◌, ℕ, ◌+◌, ◌<◌, ◌≤◌, ◌==◌, not, false, List, [], ◌∷◌, length, take, drop, get_or, position, unwrap_or, refl, sym, ◌∙◌, ⊎_elim, arith}
use Rattle.std.specs.List.{All, position_or_len, before_first}
use Rattle.std.proofs.lemmas.Bool.{cases_lt, lt-ltb, le-ltb, eqb-false}
use Rattle.std.proofs.lemmas.List.{length-take, get_or-take}
use Rattle.std.proofs.lemmas.List.Folds.{length-prefix_len}
use Rattle.std.proofs.lemmas.List.Sums.{fails_before_first, prefix_len-le-length}
use Rattle.lava_streams.specs.Lines.{line_of, line_before}
use Rattle.lava_streams.specs.declared.source.TheConstants.{LINE_LIMIT}
use Rattle.lava_streams.specs.declared.source.Line.TheVariants.{Bytes, TooLong}

line_of_some : (xs : List ℕ) → (length xs == 0) ≡ false → line_of xs ≡ line_before (before_first (λ b. b == 10) xs) xs
line_of_some [] some = cc
line_of_some (x ∷ xs) some = refl

length-line : (xs : List ℕ) → length (before_first (λ b. b == 10) xs) ≡ position_or_len (λ b. b == 10) xs
length-line xs = length-prefix_len (λ b. not (b == 10)) xs

line_before_long : (line bytes : List ℕ) → LINE_LIMIT < length line → line_before line bytes ≡ (TooLong, drop LINE_LIMIT bytes)
line_before_long line bytes long = rw (lt-ltb LINE_LIMIT (length line) long) refl

line_before_short : (line bytes : List ℕ) → length line ≤ LINE_LIMIT → line_before line bytes ≡ (Bytes line, drop (length line + 1) bytes)
line_before_short line bytes short = rw (le-ltb LINE_LIMIT (length line) short) refl

-- a line of more bytes than the limit
pub line_of_long : (xs : List ℕ) (n : ℕ) → (length xs == 0) ≡ false → n ≡ position_or_len (λ b. b == 10) xs → LINE_LIMIT < n → line_of xs ≡ (TooLong, drop LINE_LIMIT xs)
line_of_long xs n some is long =
    line_of_some xs some ∙ line_before_long (before_first (λ b. b == 10) xs) xs (omega (arith, length-line xs))

-- a line of at most as many bytes as the limit
pub line_of_short : (xs : List ℕ) (n : ℕ) → (length xs == 0) ≡ false → n ≡ position_or_len (λ b. b == 10) xs → n ≤ LINE_LIMIT → line_of xs ≡ (Bytes (take n xs), drop (n + 1) xs)
line_of_short xs n some is short =
    line_of_some xs some
    ∙ line_before_short (before_first (λ b. b == 10) xs) xs (omega (arith, length-line xs))
    ∙ rw (length-line xs, is) refl

-- the bytes before the first LF are none
pub All-line : (xs : List ℕ) (n : ℕ) → n ≡ position_or_len (λ b. b == 10) xs → All (λ b. b ≢ 10) (take n xs)
All-line xs n is k d lt e =
    let below : k < n = omega (arith, length-take n xs) in
    let fails : (get_or xs k d == 10) ≡ false = fails_before_first (λ b. b == 10) xs k d (rw (← is) below) in
    eqb-false (get_or xs k d) 10 fails (sym (get_or-take n xs k d below) ∙ e)

-- the first LF, or the length
pub unwrap_or-position : (xs : List ℕ) → unwrap_or (position (λ b. b == 10) xs) (length xs) ≡ position_or_len (λ b. b == 10) xs
unwrap_or-position xs =
    ⊎_elim
    (λ (lt : position_or_len (λ b. b == 10) xs < length xs). rw (lt-ltb _ _ lt) refl)
    (λ (ge : length xs ≤ position_or_len (λ b. b == 10) xs). rw (le-ltb _ _ ge) (omega (arith, prefix_len-le-length (λ b. not (b == 10)) xs)))
    (cases_lt (position_or_len (λ b. b == 10) xs) (length xs))
