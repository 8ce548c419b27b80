-- Comments, and what is left behind the characters of a class.
use Rattle.std.proofs.Common.{◌≡◌, ◌↔◌, ℕ, ◌==◌, Bool, true, false, cond, List, [], ◌∷◌, Some, Ok, refl}
use Rattle.js_lexer.specs.declared.comments.Comment.{Comment}
use Rattle.js_lexer.specs.declared.comments.Comment.TheVariants as comments
use Rattle.js_lexer.specs.Rules.{Rule, One, NotBefore, Then, Or, Many, Leads}
use Rattle.js_lexer.specs.Grammar.{char, is, not_asterisk, rest_of_comment}
use Rattle.js_lexer.specs.Machines.{run}
use Rattle.js_lexer.specs.Comments.{comment_step, comment_stop}
use Rattle.js_lexer.specs.Skipping.{skip}
use Rattle.js_lexer.proofs.Derivatives.{behind, may_be_empty, goes, ends_before, ends_there}
use Rattle.js_lexer.proofs.Machine_laws.{Reads, exact}
use Rattle.js_lexer.proofs.Rule_steps.{Agrees, AgreesAt, Leaves, agrees, follows_leaves, stops_leaves, parts, one}
use Rattle.js_lexer.proofs.Tests.{is_one_of, other_than}
use Rattle.js_lexer.proofs.Escapes_laws.{always}

abbrev in_comment : Rule
in_comment = Or (One not_asterisk) (Then (char 42) (NotBefore (is 47)))

abbrev comment_end : Rule
comment_end = Then (char 42) (char 47)

-- what is left of a comment
abbrev pub comment_rest : Comment → Unit {0} → Rule
comment_rest comments.Inside k = rest_of_comment
comment_rest comments.Asterisk k = Or (Then (Then (NotBefore (is 47)) (Many in_comment)) comment_end) (char 47)

abbrev kinds : List (Unit {0})
kinds = tt ∷ []

-- `*` and `/`
abbrev characters : List ℕ
characters = 42 ∷ 47 ∷ []

table : (s : Comment) → AgreesAt comment_step comment_stop comment_rest always characters kinds s
table comments.Inside = (refl, refl)
table comments.Asterisk = (refl, refl)

others : (s : Comment) (c : ℕ) → is_one_of characters c ≡ false → Agrees comment_step comment_stop comment_rest always kinds s c
others s c o = by_state s (other_than characters c 42 o refl) (other_than characters c 47 o refl)
  where
    by_state : (s : Comment) → (c == 42) ≡ false → (c == 47) ≡ false → Agrees comment_step comment_stop comment_rest always kinds s c
    by_state comments.Inside a b = simp (a, b)
    by_state comments.Asterisk a b = simp (a, b)

steps_to : (s : Comment) (c : ℕ) (k : Unit {0}) → Leaves comment_step comment_stop comment_rest always s k c (comment_step s c)
steps_to s c k = parts _ _ (one _ _ (agrees comment_step comment_stop comment_rest always characters kinds s (table s) (others s) c))

-- the machine reads exactly the rest of a comment
pub comment_exact : (xs ys : List ℕ) → Leads rest_of_comment xs ys ↔ (run comment_step comment_stop comments.Inside xs ≡ Ok (tt, ys))
comment_exact xs ys =
    let e : Leads rest_of_comment xs ys ↔ Reads comment_step comment_stop comment_rest always (run comment_step comment_stop comments.Inside xs) tt ys
    = exact comment_step comment_stop comment_rest always (λ s c. follows_leaves comment_step comment_stop comment_rest always s c (comment_step s c) (steps_to s c))
    (λ s. stops_leaves comment_step comment_stop comment_rest always s (comment_stop s) (λ k. one _ _ (table s).1)) comments.Inside tt xs ys in
    (λ h. (e.0 h).1, λ h. e.1 (tt, h, refl))

-- all the characters of a class, and none of them behind

skip_steps : (p : ℕ → Bool) (c : ℕ) (cs ys : List ℕ) → p c ≡ true → Leads (Then (Many (One p)) (NotBefore p)) (c ∷ cs) ys ↔ Leads (Then (Many (One p)) (NotBefore p)) cs ys
skip_steps p c cs ys h = goes_on
  where
    e : may_be_empty (Then (Many (One p)) (NotBefore p)) (Some c) ≡ false
    e = rw h refl

    d : behind (Then (Many (One p)) (NotBefore p)) c ≡ Then (Many (One p)) (NotBefore p)
    d = rw h refl

    goes_on : Leads (Then (Many (One p)) (NotBefore p)) (c ∷ cs) ys ↔ Leads (Then (Many (One p)) (NotBefore p)) cs ys
    goes_on = goes (Then (Many (One p)) (NotBefore p)) (Then (Many (One p)) (NotBefore p)) c cs ys e d

skip_stops : (p : ℕ → Bool) (c : ℕ) (cs ys : List ℕ) → p c ≡ false → Leads (Then (Many (One p)) (NotBefore p)) (c ∷ cs) ys ↔ (ys ≡ c ∷ cs)
skip_stops p c cs ys h = ends_before (Then (Many (One p)) (NotBefore p)) c cs ys (rw h refl) (rw h refl)

by_class : (p : ℕ → Bool) (c : ℕ) (cs ys : List ℕ) (b : Bool) → p c ≡ b → Leads (Then (Many (One p)) (NotBefore p)) cs ys ↔ (ys ≡ skip p cs) →
    Leads (Then (Many (One p)) (NotBefore p)) (c ∷ cs) ys ↔ (ys ≡ cond b (skip p cs) (c ∷ cs))
by_class p c cs ys true h again = (λ l. again.0 ((skip_steps p c cs ys h).0 l), λ e. (skip_steps p c cs ys h).1 (again.1 e))
by_class p c cs ys false h again = skip_stops p c cs ys h

pub skip_exact : (p : ℕ → Bool) (xs ys : List ℕ) → Leads (Then (Many (One p)) (NotBefore p)) xs ys ↔ (ys ≡ skip p xs)
skip_exact p [] ys = ends_there (Then (Many (One p)) (NotBefore p)) ys refl
skip_exact p (c ∷ cs) ys = by_class p c cs ys (p c) refl (skip_exact p cs ys)
