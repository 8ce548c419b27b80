-- What is new goes last, and is counted.
use Rattle.std.proofs.Common.{◌≡◌, ℕ, ◌+◌, ◌==◌, Bool, true, false, cond, if◌then◌else◌, List, [], ◌∷◌, ◌++◌, Option, Some, None, refl, ap, ◌∙◌, arith}
use Rattle.std.proofs.lemmas.List.Sums.{fold_push}
use Rattle.std.specs.List.{count_by}
use Rattle.std.specs.Map.{lookup}
use Rattle.std.specs.Option.{option_or}
use Rattle.indexmap.specs.IndexMap.{insert_entry}
use Rattle.lava_base.specs.declared.ids.MadeSymbol.{MadeSymbol}
use Rattle.lava_base.specs.declared.ids.ObjId.{ObjId}
use Rattle.lava_base.specs.declared.ids.PartyId.{PartyId}
use Rattle.lava_base.specs.declared.ids.Ref.{Ref}
use Rattle.lava_base.specs.declared.ids.Ref.TheVariants.{Own}
use Rattle.lava_journal.specs.Counts.{Counts, counted}
use Rattle.lava_journal.specs.Sheets.{object_is_of, symbol_is_of}

not_found : {V : Type 0} (b : Bool) (v : V) (rest : Option V) → cond b (Some v) rest ≡ None → (b ≡ false) × (rest ≡ None)
not_found true v rest h = absurd cc
not_found false v rest h = (refl, h)

-- a key that is not there goes last
pub goes_last : {K V : Type 0} (eq : K → K → Bool) (k : K) (v : V) (es : List (K × V)) → lookup (eq k) es ≡ None → insert_entry eq es k v ≡ es ++ (k, v) ∷ []
goes_last eq k v [] h = refl
goes_last eq k v (e ∷ es) h =
    let none = not_found (eq k e.0) e.1 (lookup (eq k) es) h in
    ap (λ b. cond b ((e.0, v) ∷ es) (e ∷ insert_entry eq es k v)) none.0 ∙ ap (λ l. e ∷ l) (goes_last eq k v es none.1)

-- what is at none of two places is not at the second
pub second_none : {V : Type 0} (a b : Option V) → option_or a b ≡ None → b ≡ None
second_none None b h = h
second_none (Some v) b h = absurd cc

-- one more is counted where it passes
counted_push : {X : Type 0} (test : X → Bool) (xs : List X) (x : X) → count_by test (xs ++ x ∷ []) ≡ count_by test xs + (if test x then 1 else 0)
counted_push test xs x = fold_push (λ a y. a + cond (test y) 1 0) 0 xs x

-- one number more of a party is counted
abbrev pub CountsOneMore : List (ℕ × ℕ) → List (ℕ × ℕ) → ℕ → Type 0
CountsOneMore old new p = (q : ℕ) → counted new q ≡ counted old q + (if p == q then 1 else 0)

pub object_counted : (old new : List (ℕ × ℕ)) (objects : List (Ref × ℕ)) (symbols : List (MadeSymbol × ℕ)) (p : PartyId) (i : ObjId) (n : ℕ)
    → Counts old objects symbols → CountsOneMore old new p.0 → Counts new (objects ++ (Own p i, n) ∷ []) symbols
object_counted old new objects symbols p i n c more = record {
  right = λ q. omega (arith, more q, c.right q, counted_push (object_is_of q) objects (Own p i, n));
}

pub symbol_counted : (old new : List (ℕ × ℕ)) (objects : List (Ref × ℕ)) (symbols : List (MadeSymbol × ℕ)) (s : MadeSymbol) (n : ℕ)
    → Counts old objects symbols → CountsOneMore old new s.party.0 → Counts new objects (symbols ++ (s, n) ∷ [])
symbol_counted old new objects symbols s n c more = record {
  right = λ q. omega (arith, more q, c.right q, counted_push (symbol_is_of q) symbols (s, n));
}
