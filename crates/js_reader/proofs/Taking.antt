-- A token that would be taken is taken, and another one has a semicolon before it.
use Rattle.std.proofs.Common.{◌≡◌, ℕ, ◌+◌, ◌≤◌, List, [], ◌∷◌, length, get_or, take, drop, ◌-◌, sym, subst, arith, Bool, true, false, cond, Option, Some, None, refl, ap, ◌∙◌}
use Rattle.js_grammar.specs.declared.lexeme.Lexeme.{Lexeme}
use Rattle.js_grammar.specs.Flat.{Flat, fed_in}
use Rattle.js_grammar.specs.Laws.{Looks_ahead, is_some, semi, do_semi, rule_stands}
use Rattle.js_grammar.specs.Moves.{Takes}
use Rattle.js_grammar.specs.Would.{would}
use Rattle.std.proofs.lemmas.List.{take_all}
use Rattle.lava_base.specs.declared.place.Place.{Place}
use Rattle.js_lexer.specs.declared.token.Token.{Token}
use Rattle.js_reader.specs.declared.halt.Halt.{Halt}
use Rattle.js_reader.specs.declared.halt.HaltCause.{HaltCause}
use Rattle.js_reader.specs.declared.halt.HaltCause.TheVariants as cause
use Rattle.js_reader.specs.Halts.{halt, told_of, at_place, stopped, Ends_step}
use Rattle.js_reader.specs.Steps.{lexeme_of, paired_in, stepped_in, Course, Stuck, unless, after_step, course, Reaches}

pub stuck_so : (p : Place) (o : Option Flat) (h : Halt) (go : Flat → Course) → stopped p o ≡ Some h → after_step p o go ≡ Stuck h
stuck_so p None h go e = let k : halt p cause.Unexpected ≡ h = cc in ap (λ x. Stuck x) k
stuck_so p (Some q) h go e = by (told_of q) e
  where
    by : (s : Option HaltCause) → at_place p s ≡ Some h → unless p s (go q) ≡ Stuck h
    by None e = cc
    by (Some s) e = let k : halt p s ≡ h = cc in ap (λ x. Stuck x) k

pub onward_so : (p : Place) (o : Option Flat) (q : Flat) (go : Flat → Course) → o ≡ Some q → told_of q ≡ None → after_step p o go ≡ go q
onward_so p o q go e n = rw (e, n) refl

pub tail_all : (rest : List Token) → take (length rest - 1) (drop 1 rest) ≡ drop 1 rest
tail_all [] = refl
tail_all (t ∷ ts) = take_all (length (t ∷ ts) - 1) ts (omega arith)

-- a stop at the first of some tokens
pub stuck_course : (source : List ℕ) (at : ℕ) (q : Flat) (rest : List Token) (d : Token) (new : Flat) (o : Option Halt) (h : Halt) (c : Course) (l : Lexeme) (later : List Token) → 1 ≤ length rest → c ≡ course source at q rest → later ≡ drop 1 rest → l ≡ lexeme_of source at (get_or rest 0 d) later → Ends_step (get_or rest 0 d).start (stepped_in q l) new o → o ≡ Some h → Reaches c new (Some h)
stuck_course source at q rest d new None h c l later n e v k x i = cc
stuck_course source at q [] d new (Some g) h c l later n e v k x i = absurd (omega (arith, n))
stuck_course source at q (t ∷ ts) d new (Some g) h c l later n e v k x i =
    let P : Lexeme → Type 0 = λ y. stopped t.start (stepped_in q y) ≡ Some h in
    let w : c ≡ Stuck h = e ∙ stuck_so t.start (stepped_in q (lexeme_of source at t ts)) h (λ p. course source (at + 1) p ts) (subst P (k ∙ ap (λ y. lexeme_of source at t y) v) (x ∙ i)) in
    let Q : Course → Type 0 = λ y. Reaches y new (Some h) in
    subst Q (sym w) refl
