-- The machine that reads numeric literals reads exactly what is one by the lexical grammar.
use Rattle.std.proofs.Common.{◌≡◌, ◌↔◌, ◌⊎◌, inl, inr, ◌∙◌, ℕ, true, false, List, [], ◌∷◌, ◌++◌, Ok, Err, refl, subst}
use Rattle.js_lexer.specs.Rules.{Leads}
use Rattle.js_lexer.specs.Grammar.{numeric_literal, bigint}
use Rattle.js_lexer.specs.Machines.{Reading, run}
use Rattle.js_lexer.specs.Numbers.{number, number_step, number_stop}
use Rattle.js_lexer.specs.declared.machine.Stop.TheVariants as stops
use Rattle.js_lexer.specs.declared.numbers.Numeral.{Numeral}
use Rattle.js_lexer.specs.declared.numbers.Numeral.TheVariants.{Number, Separated, BigInt}
use Rattle.js_lexer.specs.declared.numbers.Radix.TheVariants.{Hexadecimal, Octal, Binary}
use Rattle.js_lexer.specs.declared.numbers.NumberPart.{NumberPart}
use Rattle.js_lexer.specs.declared.numbers.NumberPart.TheVariants.{Start, LeadingPoint, IntegerSeparator, FractionSeparator, ExponentIndicator, ExponentSign, ExponentSeparator, RadixPrefix, RadixSeparator}
use Rattle.js_lexer.proofs.Machine_laws.{Reads, exact, bad_stays, EndsIn, cut_goes_on}
use Rattle.js_lexer.proofs.Rule_steps.{follows_leaves, stops_leaves}
use Rattle.js_lexer.proofs.Number_rests.{Kind, plain, with_separators, big, gives, number_rest}
use Rattle.js_lexer.proofs.Number_steps.{steps_to, stops_at}

-- what is read from the start on
abbrev pub read_number : List ℕ → Reading Numeral
read_number xs = run number_step number_stop Start xs

reads : (k : Kind) (xs ys : List ℕ) → Leads (number_rest Start k) xs ys ↔ Reads number_step number_stop number_rest gives (read_number xs) k ys
reads k xs ys =
    exact number_step number_stop number_rest gives
    (λ part c. follows_leaves number_step number_stop number_rest gives part c (number_step part c) (steps_to part c))
    (λ part. stops_leaves number_step number_stop number_rest gives part (number_stop part) (stops_at part))
    Start k xs ys

-- the outcomes of each kind

plain_only : (n : Numeral) → gives n plain ≡ true → n ≡ Number
plain_only Number h = refl
plain_only Separated h = absurd (cc)
plain_only BigInt h = absurd (cc)

big_only : (n : Numeral) → gives n big ≡ true → n ≡ BigInt
big_only Number h = absurd (cc)
big_only Separated h = absurd (cc)
big_only BigInt h = refl

with_separators_only : (n : Numeral) → gives n with_separators ≡ true → (n ≡ Number) ⊎ (n ≡ Separated)
with_separators_only Number h = inl refl
with_separators_only Separated h = inr refl
with_separators_only BigInt h = absurd (cc)

-- numbers without separators
pub number_plain : (xs ys : List ℕ) → Leads (numeric_literal false) xs ys ↔ (run number_step number_stop Start xs ≡ Ok (Number, ys))
number_plain xs ys = (
  λ h.
      let r : Reads number_step number_stop number_rest gives (read_number xs) plain ys = (reads plain xs ys).0 h in
      subst (λ n. read_number xs ≡ Ok (n, ys)) (plain_only r.0 r.2) r.1,
  λ h. (reads plain xs ys).1 (Number, h, refl),
)

-- numbers with separators or without
pub number_separated : (xs ys : List ℕ) → Leads (numeric_literal true) xs ys ↔
    ((run number_step number_stop Start xs ≡ Ok (Number, ys)) ⊎ (run number_step number_stop Start xs ≡ Ok (Separated, ys)))
number_separated xs ys = (
  λ h.
      let r : Reads number_step number_stop number_rest gives (read_number xs) with_separators ys = (reads with_separators xs ys).0 h in
      elim (with_separators_only r.0 r.2) [
        | inl e ↦ inl (subst (λ n. read_number xs ≡ Ok (n, ys)) e r.1)
        | inr e ↦ inr (subst (λ n. read_number xs ≡ Ok (n, ys)) e r.1)
      ],
  λ h. elim h [
    | inl e ↦ (reads with_separators xs ys).1 (Number, e, refl)
    | inr e ↦ (reads with_separators xs ys).1 (Separated, e, refl)
  ],
)

-- BigInts
pub number_big : (xs ys : List ℕ) → Leads bigint xs ys ↔ (run number_step number_stop Start xs ≡ Ok (BigInt, ys))
number_big xs ys = (
  λ h.
      let r : Reads number_step number_stop number_rest gives (read_number xs) big ys = (reads big xs ys).0 h in
      subst (λ n. read_number xs ≡ Ok (n, ys)) (big_only r.0 r.2) r.1,
  λ h. (reads big xs ys).1 (BigInt, h, refl),
)

-- where no literal goes on

never_bad : (part : NumberPart) → number_stop part ≡ Err stops.Bad → ⊥
never_bad Start h = cc
never_bad _ h = cc

-- none does, whatever follows
pub number_bad : (xs more : List ℕ) → run number_step number_stop Start xs ≡ Err stops.Bad → run number_step number_stop Start (xs ++ more) ≡ Err stops.Bad
number_bad xs more h = bad_stays number_step number_stop never_bad Start xs more h

-- where the text ends inside a literal

abbrev Completes : NumberPart → Type 0
Completes part = (more : List ℕ) × (n : Numeral) × (run number_step number_stop part more ≡ Ok (n, []))

-- a `0` completes it
completes : (part : NumberPart) → number_stop part ≡ Err stops.Cut → Completes part
completes Start h = (48 ∷ [], Number, refl)
completes LeadingPoint h = (48 ∷ [], Number, refl)
completes IntegerSeparator h = (48 ∷ [], Separated, refl)
completes FractionSeparator h = (48 ∷ [], Separated, refl)
completes (ExponentIndicator s) h = (48 ∷ [], number s, refl)
completes (ExponentSign s) h = (48 ∷ [], number s, refl)
completes ExponentSeparator h = (48 ∷ [], Separated, refl)
completes (RadixPrefix Hexadecimal) h = (48 ∷ [], Number, refl)
completes (RadixPrefix Octal) h = (48 ∷ [], Number, refl)
completes (RadixPrefix Binary) h = (48 ∷ [], Number, refl)
completes (RadixSeparator Hexadecimal) h = (48 ∷ [], Separated, refl)
completes (RadixSeparator Octal) h = (48 ∷ [], Separated, refl)
completes (RadixSeparator Binary) h = (48 ∷ [], Separated, refl)
completes _ h = absurd (cc)

-- the text is the start of one
pub number_cut : (xs : List ℕ) → run number_step number_stop Start xs ≡ Err stops.Cut → (more : List ℕ) × (n : Numeral) × (run number_step number_stop Start (xs ++ more) ≡ Ok (n, []))
number_cut xs h =
    let e : EndsIn number_step number_stop Start xs = cut_goes_on number_step number_stop Start xs h in
    let m : Completes e.0 = completes e.0 e.1 in
    (m.0, m.1, e.2 m.0 ∙ m.2)
