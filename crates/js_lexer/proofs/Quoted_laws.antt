-- The machine of strings and templates reads exactly what the grammar has.
use Rattle.std.proofs.Common.{◌≡◌, ◌↔◌, ℕ, ◌==◌, Bool, true, false, List, [], ◌∷◌, ◌++◌, Some, None, refl}
use Rattle.std.specs.Int.{is_in_range}
use Rattle.js_lexer.specs.declared.machine.Step.{Step}
use Rattle.js_lexer.specs.declared.machine.Step.TheVariants.{Go, With, Before, Bad}
use Rattle.js_lexer.specs.declared.escapes.Escape.{Escape}
use Rattle.js_lexer.specs.declared.quoted.Quote.{Quote}
use Rattle.js_lexer.specs.declared.quoted.Quote.TheVariants as quotes
use Rattle.js_lexer.specs.declared.quoted.End.{End}
use Rattle.js_lexer.specs.declared.quoted.End.TheVariants as the_ends
use Rattle.js_lexer.specs.declared.quoted.Part.{Part}
use Rattle.js_lexer.specs.declared.quoted.Part.TheVariants as parts
use Rattle.js_lexer.specs.declared.quoted.Quoted.{Quoted}
use Rattle.js_lexer.specs.Characters.{is_digit}
use Rattle.js_lexer.specs.Rules.{Rule, Never, NotBefore, Then, Or, Many, Leads}
use Rattle.js_lexer.specs.Grammar.{char, is, hex_digit, after_backslash, string_character, template_character}
use Rattle.js_lexer.specs.Machines.{run}
use Rattle.js_lexer.specs.Escapes.{escape_step, escape_stop}
use Rattle.js_lexer.specs.Quoted.{quoted_step, quoted_stop, part_step, after_escape, opened}
use Rattle.js_lexer.proofs.Derivatives.{may_be_empty, stuck_there, takes_some}
use Rattle.js_lexer.proofs.Machine_laws.{Follows, Reads, exact}
use Rattle.js_lexer.proofs.Rule_steps.{Agrees, AgreesAt, Leaves, agrees, follows_leaves, parts as parts_of, two, hex_digits, no_hex_digit, no_digit, no_capital, no_small}
use Rattle.js_lexer.proofs.Sequences.{first_goes, first_ends, first_stuck}
use Rattle.js_lexer.proofs.Escapes_laws.{escape_rest, kinds_rest, always, follows as escape_follows, never_empty as escape_never_empty}
use Rattle.js_lexer.proofs.Tests.{and_false, is_one_of, other_than}

-- the characters between the quotes, and what ends them
abbrev pub character_of : Quote → Rule
character_of quotes.Double = string_character 34
character_of quotes.Single = string_character 39
character_of quotes.Template = template_character

abbrev pub close_of : Quote → End → Rule
close_of quotes.Double the_ends.Closed = char 34
close_of quotes.Double the_ends.Substitution = Never
close_of quotes.Single the_ends.Closed = char 39
close_of quotes.Single the_ends.Substitution = Never
close_of quotes.Template the_ends.Closed = char 96
close_of quotes.Template the_ends.Substitution = Then (char 36) (char 123)

abbrev pub body : Quote → End → Rule
body q k = Then (Many (character_of q)) (close_of q k)

-- what is left of a character, and then the rest
abbrev behind_part : Rule → Quote → End → Rule
behind_part a q k = Then (Then a (Many (character_of q))) (close_of q k)

abbrev dollar_rest : Quote → End → Rule
dollar_rest q the_ends.Closed = behind_part (NotBefore (is 123)) q the_ends.Closed
dollar_rest q the_ends.Substitution = Or (behind_part (NotBefore (is 123)) q the_ends.Substitution) (char 123)

abbrev part_rest : Quote → Part → End → Rule
part_rest q parts.Plain k = body q k
part_rest q parts.Backslash k = behind_part after_backslash q k
part_rest q parts.Zero k = behind_part (NotBefore is_digit) q k
part_rest q parts.TwoHexDigits k = behind_part (Then hex_digit hex_digit) q k
part_rest q parts.OneHexDigit k = behind_part hex_digit q k
part_rest q (parts.Escape e) k = behind_part (escape_rest e) q k
part_rest q parts.CarriageReturn k = behind_part (Or (char 10) (NotBefore (is 10))) q k
part_rest q parts.Dollar k = dollar_rest q k

abbrev pub quoted_rest : Quoted → End → Rule
quoted_rest s k = part_rest s.quote s.part k

abbrev pub same_end : End → End → Bool
same_end the_ends.Closed the_ends.Closed = true
same_end the_ends.Substitution the_ends.Substitution = true
same_end _ _ = false

abbrev Steps_to : Quote → Part → ℕ → Step Quoted End → Type 0
Steps_to q p c x = Follows quoted_step quoted_stop quoted_rest same_end (record { quote = q; part = p }) c x

-- but for escapes, a table of the characters that count in strings and templates, and a rule for all others

abbrev kinds : List End
kinds = the_ends.Closed ∷ the_ends.Substitution ∷ []

-- hexadecimal digits, LF, CR, `"`, `$`, `'`, `\`, the grave accent, `u`, `x`, `{`, LS, PS
abbrev characters : List ℕ
characters = hex_digits ++ 10 ∷ 13 ∷ 34 ∷ 36 ∷ 39 ∷ 92 ∷ 96 ∷ 117 ∷ 120 ∷ 123 ∷ 0x2028 ∷ 0x2029 ∷ []

Other : ℕ → Type 0
Other c = is_one_of characters c ≡ false

not_this : (c a : ℕ) → Other c → is_one_of characters a ≡ true → (c == a) ≡ false
unfolding Other
not_this c a o h = other_than characters c a o h

other_hex : (c : ℕ) → Other c → is_one_of hex_digits c ≡ false
unfolding Other
other_hex c o = no_hex_digit (10 ∷ 13 ∷ 34 ∷ 36 ∷ 39 ∷ 92 ∷ 96 ∷ 117 ∷ 120 ∷ 123 ∷ 0x2028 ∷ 0x2029 ∷ []) c o

other_digit : (c : ℕ) → Other c → is_digit c ≡ false
other_digit c o = no_digit c (other_hex c o)

other_capital : (c : ℕ) → Other c → is_in_range 65 70 c ≡ false
other_capital c o = no_capital c (other_hex c o)

other_small : (c : ℕ) → Other c → is_in_range 97 102 c ≡ false
other_small c o = no_small c (other_hex c o)

ruleset others = (not_this, other_digit, other_capital, other_small)

abbrev Table : Quote → Part → Type 0
Table q p = AgreesAt quoted_step quoted_stop quoted_rest same_end characters kinds (record { quote = q; part = p })

abbrev ForOthers : Quote → Part → Type 0
ForOthers q p = (c : ℕ) → Other c → Agrees quoted_step quoted_stop quoted_rest same_end kinds (record { quote = q; part = p }) c

by_table : (q : Quote) (p : Part) → Table q p → ForOthers q p → (c : ℕ) → Steps_to q p c (part_step q p c)
unfolding Other
by_table q p table o c = follows_leaves quoted_step quoted_stop quoted_rest same_end (record { quote = q; part = p }) c (part_step q p c) (λ k. of_end k (agrees quoted_step quoted_stop quoted_rest same_end characters kinds (record { quote = q; part = p }) table o c))
  where
    of_end : (k : End) → Agrees quoted_step quoted_stop quoted_rest same_end kinds (record { quote = q; part = p }) c → Leaves quoted_step quoted_stop quoted_rest same_end (record { quote = q; part = p }) k c (part_step q p c)
    of_end the_ends.Closed e = parts_of _ _ (two _ _ _ _ e).0
    of_end the_ends.Substitution e = parts_of _ _ (two _ _ _ _ e).1

escape_right : (q : Quote) (e : Escape) (c : ℕ) (x : Step Escape (Unit {0})) → Follows escape_step escape_stop kinds_rest always e c x → Steps_to q (parts.Escape e) c (after_escape q x)
escape_right q e c (Go t) h = λ k cs ys. first_goes (escape_rest e) (escape_rest t) (Many (character_of q)) (close_of q k) (c ∷ cs) cs ys (λ ms. h tt cs ms)
escape_right q e c (With o) h = λ k cs ys. first_ends (escape_rest e) (Many (character_of q)) (close_of q k) (c ∷ cs) cs ys (λ ms. (λ l. ((h tt cs ms).0 l).1, λ l. (h tt cs ms).1 (refl, l)))
escape_right q e c (Before o) h = λ k cs ys l. takes_some (escape_rest e) c cs (escape_never_empty e (Some c)) ((h tt cs (c ∷ cs)).1 (refl, refl))
escape_right q e c Bad h = λ k cs ys. first_stuck (escape_rest e) (Many (character_of q)) (close_of q k) (c ∷ cs) ys (λ ms. h tt cs ms)

follows : (q : Quote) (p : Part) (c : ℕ) → Steps_to q p c (part_step q p c)
follows quotes.Double parts.Plain c = by_table quotes.Double parts.Plain (refl, refl) (λ c o. simp others) c
follows quotes.Single parts.Plain c = by_table quotes.Single parts.Plain (refl, refl) (λ c o. simp others) c
follows quotes.Template parts.Plain c = by_table quotes.Template parts.Plain (refl, refl) (λ c o. simp others) c
follows quotes.Double parts.Zero c = by_table quotes.Double parts.Zero (refl, refl) (λ c o. simp others) c
follows quotes.Single parts.Zero c = by_table quotes.Single parts.Zero (refl, refl) (λ c o. simp others) c
follows quotes.Template parts.Zero c = by_table quotes.Template parts.Zero (refl, refl) (λ c o. simp others) c
follows quotes.Double parts.CarriageReturn c = by_table quotes.Double parts.CarriageReturn (refl, refl) (λ c o. simp others) c
follows quotes.Single parts.CarriageReturn c = by_table quotes.Single parts.CarriageReturn (refl, refl) (λ c o. simp others) c
follows quotes.Template parts.CarriageReturn c = by_table quotes.Template parts.CarriageReturn (refl, refl) (λ c o. simp others) c
follows quotes.Double parts.Dollar c = by_table quotes.Double parts.Dollar (refl, refl) (λ c o. simp others) c
follows quotes.Single parts.Dollar c = by_table quotes.Single parts.Dollar (refl, refl) (λ c o. simp others) c
follows quotes.Template parts.Dollar c = by_table quotes.Template parts.Dollar (refl, refl) (λ c o. simp others) c
follows q parts.Backslash c = by_table q parts.Backslash (refl, refl) (λ c o. simp others) c
follows q parts.TwoHexDigits c = by_table q parts.TwoHexDigits (refl, refl) (λ c o. simp others) c
follows q parts.OneHexDigit c = by_table q parts.OneHexDigit (refl, refl) (λ c o. simp others) c
follows q (parts.Escape e) c = escape_right q e c (escape_step e c) (escape_follows e c)

-- no text ends within its quotes

close_open : (q : Quote) (k : End) → may_be_empty (close_of q k) None ≡ false
close_open quotes.Double the_ends.Closed = refl
close_open quotes.Double the_ends.Substitution = refl
close_open quotes.Single the_ends.Closed = refl
close_open quotes.Single the_ends.Substitution = refl
close_open quotes.Template the_ends.Closed = refl
close_open quotes.Template the_ends.Substitution = refl

part_open : (q : Quote) (p : Part) (k : End) → may_be_empty (part_rest q p k) None ≡ false
part_open q parts.Dollar the_ends.Closed = rw (close_open q the_ends.Closed) refl
part_open q parts.Dollar the_ends.Substitution = rw (close_open q the_ends.Substitution) refl
part_open q (parts.Escape e) k = rw (close_open q k) (and_false _)
part_open q parts.Plain k = rw (close_open q k) refl
part_open q parts.Zero k = rw (close_open q k) refl
part_open q parts.CarriageReturn k = rw (close_open q k) refl
part_open q _ k = refl

-- the machine reads exactly what the grammar has behind the opening quote
pub quoted_exact : (q : Quote) (k : End) (xs ys : List ℕ) → Leads (body q k) xs ys ↔ Reads quoted_step quoted_stop quoted_rest same_end (run quoted_step quoted_stop (opened q) xs) k ys
quoted_exact q k xs ys = exact quoted_step quoted_stop quoted_rest same_end (λ s c. follows s.quote s.part c) (λ s k ys. stuck_there (quoted_rest s k) ys (part_open s.quote s.part k)) (opened q) k xs ys
