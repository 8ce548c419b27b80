-- The order of texts by how many names they have, and then by their bytes.
use Rattle.std.proofs.Common.{◌≡◌, ◌≢◌, ℕ, ◌+◌, ◌==◌, ◌<◌, Bool, true, false, ◌&&◌, ◌||◌, cond, eqb, ltb, List, [], ◌∷◌, ◌++◌, Ordering, refl, sym, ap, ◌∙◌, subst, arith, append_assoc}
use Rattle.std.specs.Cmp.{IsTotalOrder}
use Rattle.std.specs.Cmp.Lexicographic.{slice_cmp}
use Rattle.std.specs.FinMap.{slice_cmp-IsAntisymmetric, nat_cmp-IsAntisymmetric}
use Rattle.std.specs.Ordering.{nat_cmp, ordering_then, ordering_reverse, is_lt, is_gt}
use Rattle.std.specs.declared.cmp.Ordering.TheVariants.{Less, Equal, Greater}
use Rattle.std.proofs.lemmas.Bool.{ne_eqb, eq-eqb, lt-ltb, true≢false}
use Rattle.std.proofs.lemmas.Cmp.{nat_cmp_total, nat_list_cmp_total, on_total, then_total, tied_itself, ranked, upto}
use Rattle.std.proofs.lemmas.List.{append-nil, append_cancel_left}
use Rattle.std.proofs.lemmas.List.Sums.{sum_by-append, sum_by-cons}
use Rattle.pkg_graph.specs.Naming.{depth, is_earlier}
use Rattle.pkg_graph.proofs.SplitLemmas.{Lacks, Lacks-append, not_nil, cons_same, last_split}

abbrev pub by_rank : List ℕ → List ℕ → Ordering
by_rank a b = ordering_then (nat_cmp (depth a) (depth b)) (slice_cmp nat_cmp a b)

pub by_rank_total : IsTotalOrder by_rank
by_rank_total = then_total (on_total depth nat_cmp_total) nat_list_cmp_total

-- a text comes no later than another
abbrev pub NoLater : List ℕ → List ℕ → Type 0
NoLater a b = is_gt (by_rank a b) ≡ false

pub NoLater-refl : (a : List ℕ) → NoLater a a
NoLater-refl a = ap is_gt (tied_itself by_rank_total a)

pub NoLater-trans : (a b c : List ℕ) → NoLater a b → NoLater b c → NoLater a c
NoLater-trans a b c h k = upto by_rank_total a b c h k

tested : (l e : Bool) (o : Ordering) → (l || (e && is_lt o)) ≡ is_lt (ordering_then (cond l Less (cond e Equal Greater)) o)
tested true e o = refl
tested false true o = refl
tested false false o = refl

reversed : (o : Ordering) → is_gt (ordering_reverse o) ≡ is_lt o
reversed Less = refl
reversed Equal = refl
reversed Greater = refl

-- where the second does not come earlier, the first comes no later
pub NoLater-from : (a b : List ℕ) → is_earlier b a ≡ false → NoLater a b
NoLater-from a b h =
    ap is_gt (by_rank_total.antisymm a b) ∙ reversed (by_rank b a)
    ∙ sym (tested (ltb (depth b) (depth a)) (eqb (depth b) (depth a)) (slice_cmp nat_cmp b a)) ∙ h

-- where the first comes earlier, it comes no later
pub NoLater-earlier : (a b : List ℕ) → is_earlier a b ≡ true → NoLater a b
NoLater-earlier a b h =
    let less : is_lt (by_rank a b) ≡ true = sym (tested (ltb (depth a) (depth b)) (eqb (depth a) (depth b)) (slice_cmp nat_cmp a b)) ∙ h in
    (elim (by_rank a b) as (λ o. is_lt o ≡ true → is_gt o ≡ false) [ Less ↦ λ e. refl | Equal ↦ λ e. refl | Greater ↦ λ e. sym e ]) less

-- HOW MANY NAMES

pub depth-append : (s t : List ℕ) → depth (s ++ t) ≡ depth s + depth t
depth-append s t = sum_by-append (λ b. cond (b == 62) 1 0) s t

depth-cons : (b : ℕ) (s : List ℕ) → depth (b ∷ s) ≡ cond (b == 62) 1 0 + depth s
depth-cons b s = sum_by-cons (λ x. cond (x == 62) 1 0) b s

pub depth_lacks : (s : List ℕ) → Lacks 62 s → depth s ≡ 0
depth_lacks [] l = refl
depth_lacks (b ∷ s) l = depth-cons b s ∙ rw (ne_eqb b 62 l.0, depth_lacks s l.1) refl

pub lacks_depth : (s : List ℕ) → depth s ≡ 0 → Lacks 62 s
lacks_depth [] e = tt
lacks_depth (b ∷ s) e =
    let sum : cond (b == 62) 1 0 + depth s ≡ 0 = sym (depth-cons b s) ∙ e in (
      λ is. let one : 1 + depth s ≡ 0 = subst (λ (t : Bool). cond t 1 0 + depth s ≡ 0) (eq-eqb b 62 is) sum in omega (arith, one),
      lacks_depth s (omega (arith, sum)),
    )

-- a text with one more name
pub depth_behind : (a n : List ℕ) → Lacks 62 n → depth ((a ++ 62 ∷ []) ++ n) ≡ depth a + 1
depth_behind a n l =
    let e = depth-append (a ++ 62 ∷ []) n in
    let f = depth-append a (62 ∷ []) in
    let g = depth_lacks n l in
    let h : depth (62 ∷ []) ≡ 1 = refl in
    omega (arith, e, f, g, h)

-- THE ORDER OF TEXTS WITH ONE MORE NAME

nat_less : (m n : ℕ) → m < n → nat_cmp m n ≡ Less
nat_less m n h = rw (lt-ltb m n h) refl

nat_equal : (m n : ℕ) → m ≡ n → nat_cmp m n ≡ Equal
nat_equal m n h = rw h (tied_itself nat_cmp_total n)

-- what makes a text less than another does so too where more stands behind them
extended : (a b w v : List ℕ) → slice_cmp nat_cmp a b ≡ Less → ((s : List ℕ) → s ≢ [] → b ≡ a ++ s → ⊥) → slice_cmp nat_cmp (a ++ w) (b ++ v) ≡ Less
extended [] [] w v less apart = grind (arith, less)
extended [] (y ∷ b) w v less apart = absurd (apart (y ∷ b) (not_nil y b) refl)
extended (x ∷ a) [] w v less apart = grind (arith, less)
extended (x ∷ a) (y ∷ b) w v less apart =
    elim (nat_cmp x y) as (λ r. nat_cmp x y ≡ r → ordering_then r (slice_cmp nat_cmp a b) ≡ Less → ordering_then r (slice_cmp nat_cmp (a ++ w) (b ++ v)) ≡ Less) [
      | Less ↦ λ e h. refl
      | Equal ↦ λ e h. extended a b w v h (λ s some is. apart s some (cons_same y x b (a ++ s) (sym (nat_cmp-IsAntisymmetric x y e)) is))
      | Greater ↦ λ e h. h
    ] refl less

pub NoLater-behind : (a b n : List ℕ) → Lacks 62 n → NoLater a b → (depth a ≡ depth b → (s : List ℕ) → s ≢ [] → b ≡ a ++ s → ⊥) → NoLater ((a ++ 62 ∷ []) ++ n) ((b ++ 62 ∷ []) ++ n)
NoLater-behind a b n l no_later apart =
    let da = depth_behind a n l in
    let db = depth_behind b n l in
    let x : List ℕ = (a ++ 62 ∷ []) ++ n in
    let y : List ℕ = (b ++ 62 ∷ []) ++ n in
    elim (nat_cmp (depth a) (depth b)) as (λ r. nat_cmp (depth a) (depth b) ≡ r → is_gt (ordering_then r (slice_cmp nat_cmp a b)) ≡ false → NoLater x y) [
      | Less ↦ λ e h.
          let less : depth a < depth b = ranked (depth a) (depth b) Less (sym e) in
          let more : depth x < depth y = omega (arith, da, db, less) in
          ap (λ (o : Ordering). is_gt (ordering_then o (slice_cmp nat_cmp x y))) (nat_less (depth x) (depth y) more)
      | Equal ↦ λ e h.
          let same : depth a ≡ depth b = nat_cmp-IsAntisymmetric (depth a) (depth b) e in
          let also : nat_cmp (depth x) (depth y) ≡ Equal = nat_equal (depth x) (depth y) (omega (arith, da, db, same)) in
          let rest : is_gt (slice_cmp nat_cmp x y) ≡ false =
          elim (slice_cmp nat_cmp a b) as (λ r. slice_cmp nat_cmp a b ≡ r → is_gt r ≡ false → is_gt (slice_cmp nat_cmp x y) ≡ false) [
            | Less ↦ λ f k.
                let less : slice_cmp nat_cmp x y ≡ Less = rw (append_assoc a (62 ∷ []) n, append_assoc b (62 ∷ []) n) (extended a b (62 ∷ n) (62 ∷ n) f (apart same)) in
                ap is_gt less
            | Equal ↦ λ f k.
                let is : a ≡ b = slice_cmp-IsAntisymmetric nat_cmp-IsAntisymmetric a b f in
                subst (λ (c : List ℕ). is_gt (slice_cmp nat_cmp x ((c ++ 62 ∷ []) ++ n)) ≡ false) is (ap is_gt (tied_itself nat_list_cmp_total x))
            | Greater ↦ λ f k. absurd (true≢false k)
          ] refl h in
          ap (λ (o : Ordering). is_gt (ordering_then o (slice_cmp nat_cmp x y))) also ∙ rest
      | Greater ↦ λ e h. absurd (true≢false h)
    ] refl no_later

-- two texts with the same last name, where none is the front of the other
pub front_apart : (x y m s : List ℕ) → Lacks 62 m → Lacks 62 s → (y ++ 62 ∷ []) ++ m ≡ ((x ++ 62 ∷ []) ++ m) ++ s → s ≡ []
front_apart x y m s lm ls e =
    let left : y ++ 62 ∷ m ≡ (y ++ 62 ∷ []) ++ m = sym (append_assoc y (62 ∷ []) m) in
    let right : ((x ++ 62 ∷ []) ++ m) ++ s ≡ x ++ 62 ∷ (m ++ s) = ap (λ (t : List ℕ). t ++ s) (append_assoc x (62 ∷ []) m) ∙ append_assoc x (62 ∷ m) s in
    let last = (last_split 62 y m x (m ++ s) lm (Lacks-append 62 m s lm ls) (left ∙ e ∙ right)).1 in
    sym (append_cancel_left m [] s (append-nil m ∙ last))
