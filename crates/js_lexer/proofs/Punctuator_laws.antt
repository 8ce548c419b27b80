-- What is read a character at a time is the longest punctuator that stands there.
use Rattle.std.proofs.Common.{◌≡◌, ◌↔◌, ℕ, ◌≤◌, ◌==◌, ◌&&◌, true, List, [], ◌∷◌, ◌++◌, length, Option, Some, None, IfSome, IfNone, MatchOption, refl, sym, ap, subst, ◌∙◌, arith, append_assoc, length-append}
use Rattle.js_lexer.specs.Punctuators.{text_of, follows, Stands, IsPunctuator, singles, named, single, with_equals, twice, if_next, extended, grows, grown, dots, question, started, begun, punctuator_of}
use Rattle.js_lexer.specs.declared.punctuators.Punctuator.{Punctuator}
use Rattle.js_lexer.specs.declared.punctuators.Punctuator.TheVariants.{LeftBrace, Dot, Ellipsis, Less, Slash, Question, OptionalChain}
use Rattle.js_lexer.proofs.Tests.{both, by_test, equal, no_some, same_some}

-- what is found, from a punctuator with this behind it: it stands at the same place, and is no shorter
record Grows (p : Punctuator) (cs : List ℕ) (r : Punctuator × List ℕ) : Type 0 where
  same : text_of p ++ cs ≡ text_of r.0 ++ r.1
  longer : length (text_of p) ≤ length (text_of r.0)
  next : follows r.0 r.1 ≡ true

-- one character more
abbrev IsLonger : Punctuator → ℕ → Punctuator → Type 0
IsLonger p c q = (text_of q ≡ text_of p ++ c ∷ []) × ((ys : List ℕ) → follows q ys ≡ true)

equals_longer : (p : Punctuator) → IfSome (with_equals p) (λ q. IsLonger p 61 q)
equals_longer Less = (refl, λ ys. refl)
equals_longer _ = search

twice_longer : (p : Punctuator) → IfSome (twice p) (λ e. IsLonger p e.0 e.1)
twice_longer Less = (refl, λ ys. refl)
twice_longer _ = search

-- a choice by a test
if_next_longer : (p : Punctuator) (c : ℕ) (o : Option (ℕ × Punctuator)) → IfSome o (λ e. IsLonger p e.0 e.1) → IfSome (if_next c o) (λ q. IsLonger p c q)
if_next_longer p c None h = tt
if_next_longer p c (Some e) h =
    by_test (λ o. IfSome o (λ q. IsLonger p c q)) (c == e.0) (Some e.1) None (λ t. subst (λ z. IsLonger p z e.1) (sym (equal c e.0 t)) h) (λ _. tt)

extended_longer : (p : Punctuator) (c : ℕ) → IfSome (extended p c) (λ q. IsLonger p c q)
extended_longer p c =
    by_test (λ o. IfSome o (λ q. IsLonger p c q)) (c == 61) (with_equals p) (if_next c (twice p))
    (λ t. subst (λ z. IfSome (with_equals p) (λ q. IsLonger p z q)) (sym (equal c 61 t)) (equals_longer p))
    (λ _. if_next_longer p c (twice p) (twice_longer p))

-- growing

grows_on : (p q : Punctuator) (c : ℕ) (cs : List ℕ) (r : Punctuator × List ℕ) → IsLonger p c q → Grows q cs r → Grows p (c ∷ cs) r
grows_on p q c cs r l g = record {
  same = sym (append_assoc (text_of p) (c ∷ []) cs) ∙ ap (λ z. z ++ cs) (sym l.0) ∙ g.same;
  longer = omega (arith, g.longer, ap length l.0, length-append (text_of p) (c ∷ []));
  next = g.next;
}

grows_by : (p : Punctuator) (c : ℕ) (cs : List ℕ) (o : Option Punctuator) → follows p (c ∷ cs) ≡ true → IfSome o (λ q. IsLonger p c q) →
    ((q : Punctuator) → follows q cs ≡ true → Grows q cs (grown q cs)) → Grows p (c ∷ cs) (grows (λ q. grown q cs) p c cs o)
grows_by p c cs None f l again = record { same = refl; longer = omega arith; next = f }
grows_by p c cs (Some q) f l again = grows_on p q c cs (grown q cs) l (again q (l.1 cs))

grown_grows : (p : Punctuator) (cs : List ℕ) → follows p cs ≡ true → Grows p cs (grown p cs)
grown_grows p [] f = record { same = refl; longer = omega arith; next = f }
grown_grows p (c ∷ cs) f = grows_by p c cs (extended p c) f (extended_longer p c) (λ q. grown_grows q cs)

dots_grow : (cs : List ℕ) → follows Dot cs ≡ true → Grows Dot cs (dots cs)
dots_grow [] f = record { same = refl; longer = omega arith; next = f }
dots_grow (c ∷ []) f = record { same = refl; longer = omega arith; next = f }
dots_grow (c ∷ d ∷ cs) f =
    by_test (Grows Dot (c ∷ d ∷ cs)) (c == 46 && d == 46) (Ellipsis, cs) (Dot, c ∷ d ∷ cs) three (λ _. record { same = refl; longer = omega arith; next = f })
  where
    three : (c == 46 && d == 46) ≡ true → Grows Dot (c ∷ d ∷ cs) (Ellipsis, cs)
    three t =
        let i : ((c == 46) ≡ true) × ((d == 46) ≡ true) = both (c == 46) (d == 46) t in
        let u : c ≡ 46 = equal c 46 i.0 in
        let v : d ≡ 46 = equal d 46 i.1 in
        record { same = rw (u, v) refl; longer = omega arith; next = refl }

question_grows : (cs : List ℕ) → Grows Question cs (question cs)
question_grows [] = record { same = refl; longer = omega arith; next = refl }
question_grows (c ∷ cs) =
    by_test (Grows Question (c ∷ cs)) (c == 46 && follows OptionalChain cs) (OptionalChain, cs) (grown Question (c ∷ cs)) chain (λ _. grown_grows Question (c ∷ cs) refl)
  where
    chain : (c == 46 && follows OptionalChain cs) ≡ true → Grows Question (c ∷ cs) (OptionalChain, cs)
    chain t =
        let i : ((c == 46) ≡ true) × (follows OptionalChain cs ≡ true) = both (c == 46) (follows OptionalChain cs) t in
        let u : c ≡ 46 = equal c 46 i.0 in
        record { same = rw u refl; longer = omega arith; next = i.1 }

started_grows : (p : Punctuator) (cs : List ℕ) → follows p cs ≡ true → Grows p cs (started p cs)
started_grows Dot cs f = dots_grow cs f
started_grows Question cs f = question_grows cs
started_grows p cs f = grown_grows p cs f

-- what is read stands there

abbrev AllNamed : List (ℕ × Punctuator) → Type 0
AllNamed [] = Unit {0}
AllNamed (e ∷ es) = (text_of e.1 ≡ e.0 ∷ []) × AllNamed es

named_single : (c : ℕ) (es : List (ℕ × Punctuator)) → AllNamed es → IfSome (named c es) (λ p. text_of p ≡ c ∷ [])
named_single c [] h = tt
named_single c (e ∷ es) h =
    by_test (λ o. IfSome o (λ p. text_of p ≡ c ∷ [])) (c == e.0) (Some e.1) (named c es)
    (λ t. h.0 ∙ ap (λ z. z ∷ []) (sym (equal c e.0 t)))
    (λ _. named_single c es h.1)

single_text : (c : ℕ) → IfSome (single c) (λ p. text_of p ≡ c ∷ [])
single_text c = named_single c singles ((refl, (refl, (refl, (refl, (refl, (refl, (refl, (refl, (refl, (refl, (refl, (refl, (refl, (refl, (refl, (refl, (refl, (refl, (refl, (refl, (refl, (refl, (refl, (refl, tt)))))))))))))))))))))))))

abbrev Found : List ℕ → Punctuator × List ℕ → Type 0
Found xs r = Stands r.0 xs r.1

begun_found : (c : ℕ) (cs : List ℕ) (o : Option Punctuator) → IfSome o (λ p. text_of p ≡ c ∷ []) → IfSome (begun o cs) (Found (c ∷ cs))
begun_found c cs None h = tt
begun_found c cs (Some p) h = by_test (λ o. IfSome o (Found (c ∷ cs))) (follows p cs) (Some (started p cs)) None begun_so (λ _. tt)
  where
    begun_so : follows p cs ≡ true → Found (c ∷ cs) (started p cs)
    begun_so t =
        let g : Grows p cs (started p cs) = started_grows p cs t in
        (ap (λ z. z ++ cs) (sym h) ∙ g.same, g.next)

found : (xs : List ℕ) → IfSome (punctuator_of xs) (Found xs)
found [] = tt
found (c ∷ cs) = begun_found c cs (single c) (single_text c)

-- what stands there is no longer than what is read

record Reaches (q : Punctuator) (xs : List ℕ) : Type 0 where
  reached : Punctuator × List ℕ
  read : punctuator_of xs ≡ Some reached
  longer : length (text_of q) ≤ length (text_of reached.0)

reaches : (q : Punctuator) (zs : List ℕ) → follows q zs ≡ true → Reaches q (text_of q ++ zs)
reaches Dot zs f = record { reached = dots zs; read = rw f refl; longer = (dots_grow zs f).longer }
reaches Ellipsis zs f = record { reached = (Ellipsis, zs); read = refl; longer = omega arith }
reaches Question zs f = record { reached = question zs; read = refl; longer = (question_grows zs).longer }
reaches OptionalChain zs f = record { reached = (OptionalChain, zs); read = rw f refl; longer = omega arith }
reaches Slash zs f = record { reached = grown Slash zs; read = rw f refl; longer = (grown_grows Slash zs f).longer }
reaches q zs f = record { reached = grown q zs; read = refl; longer = (grown_grows q zs f).longer }

standing_reaches : (q : Punctuator) (xs zs : List ℕ) → Stands q xs zs → Reaches q xs
standing_reaches q xs zs h = subst (Reaches q) (sym h.0) (reaches q zs h.1)

-- a text is that of one punctuator

whole : (p : Punctuator) → punctuator_of (text_of p) ≡ Some (p, [])
whole LeftBrace = refl
whole _ = refl

one_punctuator : (p q : Punctuator) → text_of p ≡ text_of q → p ≡ q
one_punctuator p q h = ap (λ z. z.0) (same_some (punctuator_of (text_of p)) (p, []) (q, []) (whole p) (ap punctuator_of h ∙ whole q))

same_fronts : (us vs ys zs : List ℕ) → us ++ ys ≡ vs ++ zs → length us ≡ length vs → (us ≡ vs) × (ys ≡ zs)
same_fronts [] [] ys zs e l = (refl, e)
same_fronts [] (v ∷ vs) ys zs e l = absurd (omega (arith, l))
same_fronts (u ∷ us) [] ys zs e l = absurd (omega (arith, l))
same_fronts (u ∷ us) (v ∷ vs) ys zs e l =
    let i : (us ≡ vs) × (ys ≡ zs) = same_fronts us vs ys zs (tails e) (omega (arith, l)) in
    (heads e i.0, i.1)
  where
    tails : u ∷ (us ++ ys) ≡ v ∷ (vs ++ zs) → us ++ ys ≡ vs ++ zs
    tails e = cc

    heads : u ∷ (us ++ ys) ≡ v ∷ (vs ++ zs) → us ≡ vs → u ∷ us ≡ v ∷ vs
    heads e h = cc

same_standing : (p q : Punctuator) (xs ys zs : List ℕ) → Stands p xs ys → Stands q xs zs → length (text_of p) ≡ length (text_of q) → (p ≡ q) × (ys ≡ zs)
same_standing p q xs ys zs h k l =
    let i : (text_of p ≡ text_of q) × (ys ≡ zs) = same_fronts (text_of p) (text_of q) ys zs (sym h.0 ∙ k.0) l in
    (one_punctuator p q i.0, i.1)

-- the longest

some_at : {T : Type 0} (P : T → Type 0) (o : Option T) (x : T) → o ≡ Some x → IfSome o P → P x
some_at P o x e h = subst (λ z. IfSome z P) e h

-- what is read is exactly the longest punctuator that stands there
pub punctuator_exact : (p : Punctuator) (xs ys : List ℕ) → IsPunctuator p xs ys ↔ (punctuator_of xs ≡ Some (p, ys))
punctuator_exact p xs ys = (to, from)
  where
    to : IsPunctuator p xs ys → punctuator_of xs ≡ Some (p, ys)
    to h =
        let r : Reaches p xs = standing_reaches p xs ys h.0 in
        let s : Stands r.reached.0 xs r.reached.1 = some_at (Found xs) (punctuator_of xs) r.reached r.read (found xs) in
        let l : length (text_of r.reached.0) ≤ length (text_of p) = h.1 r.reached.0 r.reached.1 s in
        let i : (r.reached.0 ≡ p) × (r.reached.1 ≡ ys) = same_standing r.reached.0 p xs r.reached.1 ys s h.0 (omega (arith, l, r.longer)) in
        r.read ∙ ap (λ z. Some (z, r.reached.1)) i.0 ∙ ap (λ z. Some (p, z)) i.1

    longest : punctuator_of xs ≡ Some (p, ys) → (q : Punctuator) (r : Reaches q xs) → length (text_of q) ≤ length (text_of p)
    longest e q r = subst (λ z. length (text_of q) ≤ length (text_of z.0)) (same_some (punctuator_of xs) r.reached (p, ys) r.read e) r.longer

    from : punctuator_of xs ≡ Some (p, ys) → IsPunctuator p xs ys
    from e = (some_at (Found xs) (punctuator_of xs) (p, ys) e (found xs), λ q zs h. longest e q (standing_reaches q xs zs h))

-- where nothing is read, none stands there
pub punctuator_none : (xs : List ℕ) → punctuator_of xs ≡ None → (p : Punctuator) (ys : List ℕ) → IsPunctuator p xs ys → ⊥
punctuator_none xs e p ys h = no_some (punctuator_of xs) (p, ys) e ((punctuator_exact p xs ys).0 h)

-- the same, of an answer
pub longest_read : (r : Option Punctuator) (old new : List ℕ) → MatchOption r (punctuator_of old ≡ None) (λ p. punctuator_of old ≡ Some (p, new)) →
    IfSome r (λ p. IsPunctuator p old new)
longest_read None old new h = tt
longest_read (Some p) old new h = (punctuator_exact p old new).1 h

pub none_read : (r : Option Punctuator) (old new : List ℕ) → MatchOption r (punctuator_of old ≡ None) (λ p. punctuator_of old ≡ Some (p, new)) →
    IfNone r ((p : Punctuator) (ys : List ℕ) → ¬ (IsPunctuator p old ys))
none_read None old new h = punctuator_none old h
none_read (Some p) old new h = tt
