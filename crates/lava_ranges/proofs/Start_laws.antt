-- The names of parties, one after the other.
use Rattle.std.proofs.Common.{◌≡◌, ℕ, zero, suc, ◌+◌, ◌-◌, ◌<◌, ◌≤◌, ◌==◌, Bool, true, if◌then◌else◌, nat_eq, List, [], ◌∷◌, ◌++◌, codes, length, get_or, take, refl, sym, ap, ◌∙◌, subst, append_assoc, append-nil, arith, eqb-true}
use Rattle.std.proofs.lemmas.Bool.{and_parts, true≢false}
use Rattle.std.proofs.lemmas.List.{get_or-take, get_or_default, length-take-le, take_more}
use Rattle.std.specs.Ordering.{is_lt}
use Rattle.js_text.specs.Search.{order_of_units}
use Rattle.js_text.specs.Texts.{same_units}
use Rattle.lava_ranges.specs.Starts.{MayBeginTrace, MayStandAt, may_stand_at}
use Rattle.lava_trace.specs.Courses.{may_follow}
use Rattle.lava_trace.specs.declared.left.TheConstants.{MAX_PARTY}
use Rattle.lava_trace_laws.specs.Written.{IsName, MayBegin}

pub same_from : (a b : List ℕ) → same_units a b ≡ true → a ≡ b
same_from [] [] h = refl
same_from [] (y ∷ b) h = absurd (true≢false (sym h))
same_from (x ∷ a) [] h = absurd (true≢false (sym h))
same_from (x ∷ a) (y ∷ b) h =
    let parts = and_parts (nat_eq x y) (same_units a b) h in
    λ j. eqb-true x y parts.0 j ∷ same_from a b parts.1 j

-- an item that is there, whatever stands for one that is not
pub same_item : {X : Type 0} (xs : List X) (i : ℕ) (x d : X) → i < length xs → x ≡ get_or xs i x → x ≡ get_or xs i d
same_item xs i x d h e = e ∙ get_or_default xs i x d h

-- a party more
begun_with : (before names : List (List ℕ)) (name : List ℕ) → MayBegin before names → IsName name → may_follow (before ++ names) name ≡ true → length (before ++ names) ≤ MAX_PARTY → MayBegin before (names ++ name ∷ [])
begun_with before [] name h is f l =
    let none = append-nil before in
    (is, subst (λ b. may_follow b name ≡ true) none f, subst (λ (b : List (List ℕ)). length b ≤ MAX_PARTY) none l, tt)
begun_with before (x ∷ names) name h is f l =
    let next : before ++ x ∷ names ≡ (before ++ x ∷ []) ++ names = sym (append_assoc before (x ∷ []) names) in
    (h.0, h.1, h.2, begun_with (before ++ x ∷ []) names name h.3 is (subst (λ b. may_follow b name ≡ true) next f) (subst (λ (b : List (List ℕ)). length b ≤ MAX_PARTY) next l))

abbrev by_place : (at : ℕ) (name last : List ℕ) → Bool
by_place at name last = if at == 0 then same_units name (codes "$host$") else if at == 1 then same_units name (codes "$root$") else if at == 2 then true else is_lt (order_of_units last name)

last_is : (ps : List (List ℕ)) (at : ℕ) (name : List ℕ) → by_place at name (get_or (take at ps) (at - 1) []) ≡ by_place at name (get_or ps (at - 1) [])
last_is ps zero name = refl
last_is ps (suc n) name = ap (by_place (suc n) name) (get_or-take (suc n) ps (suc n - 1) [] (omega arith))

follows : (ps : List (List ℕ)) (at : ℕ) → at < length ps → may_follow (take at ps) (get_or ps at []) ≡ may_stand_at ps at
unfolding may_follow
follows ps at l =
    let name : List ℕ = get_or ps at [] in
    let many : length (take at ps) ≡ at = length-take-le at ps (omega (arith, l)) in
    ap (λ (n : ℕ). by_place n name (get_or (take at ps) (n - 1) [])) many
    ∙ last_is ps at name

pub one_party_more : (ps : List (List ℕ)) (at : ℕ) → at < length ps → MayBeginTrace (take at ps) → MayStandAt ps at → MayBeginTrace (take (at + 1) ps)
one_party_more ps at l h m =
    subst MayBeginTrace (sym (take_more ps at [] l))
    (begun_with [] (take at ps) (get_or ps at []) h m.name (follows ps at l ∙ m.follows) (subst (λ n. n ≤ MAX_PARTY) (sym (length-take-le at ps (omega (arith, l)))) m.few))
