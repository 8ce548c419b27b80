-- Things that stand one behind the other, one by one.
use Rattle.std.proofs.Common.{◌≡◌, ℕ, zero, suc, ◌-◌, Bool, true, false, ◌&&◌, nat_lt, lt-ltb, arith, cond, List, [], ◌∷◌, ◌++◌, refl, ap, ◌∙◌, sym, true≢false}
use Rattle.std.proofs.lemmas.List.{append-nil, append_assoc}
use Rattle.lava_trace.specs.Left.{Got, Left}
use Rattle.lava_trace.specs.Many.{many}

-- some things are made, and the rest of all things is left
pub record Continues {X : Type 0} (begins : Left → Bool) (thing : Left → Got X) (made : List X) (most : ℕ) (left : Left) (all : Got (List X)) : Type 0 where
  pub made_is : made ++ (many begins thing most left).0 ≡ all.0
  pub left_is : (many begins thing most left).1 ≡ all.1

-- at the start nothing is made
pub nothing_made : {X : Type 0} (begins : Left → Bool) (thing : Left → Got X) (most : ℕ) (left : Left) → Continues begins thing [] most left (many begins thing most left)
nothing_made begins thing most left = record { made_is = refl; left_is = refl }

-- what many things are, by whether one more begins
abbrev pub choice : {X : Type 0} → (Left → Bool) → (Left → Got X) → ℕ → Left → Bool → Got (List X)
choice begins thing n left b = cond b ((thing left).0 ∷ (many begins thing n (thing left).1).0, (many begins thing n (thing left).1).1) ([], left)

-- of some that may stand there, one begins or not
begins_is : (n : ℕ) (b t : Bool) → (nat_lt 0 (suc n) && b) ≡ t → b ≡ t
begins_is n b t h =
    let some : nat_lt 0 (suc n) ≡ true = lt-ltb 0 (suc n) (omega arith) in
    ap (λ u. u && b) (sym some) ∙ h

one_less : (n : ℕ) → suc n - 1 ≡ n
one_less n = omega arith

-- one thing more
pub one_more : {X : Type 0} (begins : Left → Bool) (thing : Left → Got X) (made : List X) (most : ℕ) (left : Left) (all : Got (List X)) (x : X) (next : Left)
    → Continues begins thing made most left all → (nat_lt 0 most && begins left) ≡ true → x ≡ (thing left).0 → next ≡ (thing left).1
    → Continues begins thing (made ++ x ∷ []) (most - 1) next all
unfolding many
one_more begins thing made zero left all x next c h e f = absurd (true≢false (sym h))
one_more begins thing made (suc n) left all x next c h e f = record {
  made_is =
      ap (λ (m : ℕ). (made ++ x ∷ []) ++ (many begins thing m next).0) (one_less n)
      ∙ append_assoc made (x ∷ []) (many begins thing n next).0
      ∙ (λ k. made ++ e k ∷ (many begins thing n (f k)).0)
      ∙ ap (λ b. made ++ (choice begins thing n left b).0) (sym (begins_is n (begins left) true h))
      ∙ c.made_is;
  left_is =
      ap (λ (m : ℕ). (many begins thing m next).1) (one_less n)
      ∙ ap (λ l. (many begins thing n l).1) f
      ∙ ap (λ b. (choice begins thing n left b).1) (sym (begins_is n (begins left) true h))
      ∙ c.left_is;
}

-- no thing more
ended : {X : Type 0} (begins : Left → Bool) (thing : Left → Got X) (most : ℕ) (left : Left) → (nat_lt 0 most && begins left) ≡ false → many begins thing most left ≡ ([], left)
unfolding many
ended begins thing zero left h = refl
ended begins thing (suc n) left h = ap (choice begins thing n left) (begins_is n (begins left) false h)

pub all_made : {X : Type 0} (begins : Left → Bool) (thing : Left → Got X) (made : List X) (most : ℕ) (left : Left) (all : Got (List X))
    → Continues begins thing made most left all → (nat_lt 0 most && begins left) ≡ false → made ≡ all.0
all_made begins thing made most left all c h = sym (append-nil made) ∙ ap (λ m. made ++ m.0) (sym (ended begins thing most left h)) ∙ c.made_is

pub all_left : {X : Type 0} (begins : Left → Bool) (thing : Left → Got X) (made : List X) (most : ℕ) (left : Left) (all : Got (List X))
    → Continues begins thing made most left all → (nat_lt 0 most && begins left) ≡ false → left ≡ all.1
all_left begins thing made most left all c h = ap (λ m. m.1) (sym (ended begins thing most left h)) ∙ c.left_is
