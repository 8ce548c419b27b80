-- Bodies of three forms that are done at once, and those like that of `x++`.
use Rattle.std.proofs.Common.{◌≡◌, ℕ, ℤ, zero, suc, ◌+◌, true, is_some, List, [], ◌∷◌, get_or, length, map, slice_index, slice_set, None, Some, refl, sym, ap, ◌∙◌, subst, arith}
use Rattle.std.proofs.lemmas.List.{get_or-set_other}
use Rattle.lava_base.specs.declared.ids.MadeSymbol.{MadeSymbol}
use Rattle.lava_base.specs.declared.ids.Ref.{Ref}
use Rattle.js_text.specs.Naming.{naming_of}
use Rattle.js_text.specs.declared.value.Value.TheVariants as value
use Rattle.js_tree.specs.declared.operator.BinaryOperator.{BinaryOperator}
use Rattle.js_desc.specs.declared.reply.Reply.TheVariants as reply
use Rattle.js_code.specs.Decoded.{term_at}
use Rattle.js_code.specs.Tables.{part_of}
use Rattle.js_code.specs.declared.node.Node.TheVariants as node
use Rattle.js_store.specs.Frozen.{CommonObject}
use Rattle.js_store.specs.Objects.{Object}
use Rattle.js_state.specs.Scopes.{Scope, no_scope, outwards, scope_at, slot_of, with_slot, with_value as with_kept}
use Rattle.js_operation.specs.Computing.{number_or_end}
use Rattle.js_operation.specs.Operating.{MachineValue}
use Rattle.js_operation.specs.declared.operation.Computed.TheVariants.{Is}
use Rattle.js_operation.specs.js_run.Acts.{Next, with_value}
use Rattle.js_operation.specs.js_run.Completions.{Replied}
use Rattle.js_operation.specs.js_run.Control.{in_order}
use Rattle.js_operation.specs.js_run.Operators.{numeric}
use Rattle.js_operation.specs.js_run.Runs.{Begins, Charged, Due, Gives, answered, charge, run_for, settle}
use Rattle.js_direct.specs.Direct.{Sight}
use Rattle.js_direct.specs.Done.{DoesAtOnce}
use Rattle.js_direct.specs.Increments.{CameOfBody, ChangesNumber, HasRow, IsIncremented, KeepsNumber, WritesBoth}
use Rattle.js_direct.specs.declared.increments.Incremented.{Incremented}
use Rattle.js_direct.specs.declared.increments.Incremented.TheVariants as came
use Rattle.js_direct.proofs.Charges.{part}
use Rattle.js_direct.proofs.Doing.{init_does, set_does, value_does}
use Rattle.js_direct.proofs.Given.{begun, binary, calculates, literal, plus, slot}

module _ (s : Sight) (common : List CommonObject) where
  -- the sight after a form
  abbrev pub after : List (Object Ref MadeSymbol) → List (Scope Ref MadeSymbol) → Sight
  after objects scopes = record s { objects = objects; scopes = scopes }

  -- three forms in their order
  pub three_do : (at start count a b d : ℕ) (u v w : MachineValue) (o1 o2 o3 : List (Object Ref MadeSymbol)) (c1 c2 c3 : List (Scope Ref MadeSymbol)) (i j k all : ℕ) → HasRow s.code at (node.Seq start count) → part_of start count s.code.numbers ≡ a ∷ b ∷ d ∷ []
      → DoesAtOnce s common a u o1 c1 i → DoesAtOnce (after o1 c1) common b v o2 c2 j → DoesAtOnce (after o2 c2) common d w o3 c3 k → all ≡ 1 + i + j + k → DoesAtOnce s common at w o3 c3 all
  three_do at start count a b d u v w o1 o2 o3 c1 c2 c3 i j k all e forms first second third sum =
      record {
        does = λ shared env p ks charges limit steps f o t x y z.
            (let names = naming_of s.me in
            let term = term_at s.code in
            let then_all : Next Ref MadeSymbol = with_value (λ v q. in_order (term b ∷ term d ∷ []) q) in
            let then_last : Next Ref MadeSymbol = with_value (λ v q. in_order (term d ∷ []) q) in
            let p1 = record p { objects = o1; scopes = c1 } in
            let p2 = record p { objects = o2; scopes = c2 } in
            let one_left : charge p.meter steps limit 1 ≡ Charged = part p.meter steps steps limit 1 all (omega (arith, sum)) z in
            let i_left : charge p.meter (steps + 1) limit i ≡ Charged = part p.meter steps (steps + 1) limit i all (omega (arith, sum)) z in
            let j_left : charge p.meter (steps + 1 + i) limit j ≡ Charged = part p.meter steps (steps + 1 + i) limit j all (omega (arith, sum)) z in
            let k_left : charge p.meter (steps + 1 + i + j) limit k ≡ Charged = part p.meter steps (steps + 1 + i + j) limit k all (omega (arith, sum)) z in
            let counted : all + charges ≡ suc (i + (j + (k + charges))) = omega (arith, sum) in
            let paid : steps + 1 + i + j + k ≡ steps + all = omega (arith, sum) in
            ap (λ m. run_for names shared env m limit steps (Due 0 (Begins (term at)) p ks)) counted
            ∙ begun s at shared env p ks (i + (j + (k + charges))) limit steps (node.Seq start count) e one_left
            ∙ ap (λ ns. run_for names shared env (i + (j + (k + charges))) limit (steps + 1) (settle names shared env ks (answered names env (in_order (map term ns) p)))) forms
            ∙ first.does shared env p (then_all ∷ ks) (j + (k + charges)) limit (steps + 1) f o t x y i_left
            ∙ second.does shared env p1 (then_last ∷ ks) (k + charges) limit (steps + 1 + i) f refl refl x y j_left
            ∙ third.does shared env p2 ks charges limit (steps + 1 + i + j) f refl refl x y k_left
            ∙ ap (λ m. run_for names shared env charges limit m (settle names shared env ks (Gives (Replied (reply.Value w)) (record p { objects = o3; scopes = c3 })))) paid);
      }

  -- the number of a slot is kept, changed and given
  pub increments : (at start count a b d h i : ℕ) (op : BinaryOperator) (amount n m g : ℤ) (c1 c2 : List (Scope Ref MadeSymbol)) → HasRow s.code at (node.Seq start count) → part_of start count s.code.numbers ≡ a ∷ b ∷ d ∷ []
      → KeepsNumber s.code a h i → ChangesNumber s.code b h i op amount → HasRow s.code d (node.Local 0 0)
      → slot_of s.scopes (outwards s.scopes h s.scope) i ≡ Some (value.Int n) → number_or_end (numeric op n amount) ≡ Is m
      → c1 ≡ with_slot s.scopes s.scope 0 (value.Int n) → slot_of c1 s.scope 0 ≡ Some (value.Int n) → is_some (slot_of c1 (outwards c1 h s.scope) i) ≡ true
      → c2 ≡ with_slot c1 (outwards c1 h s.scope) i (value.Int m) → slot_of c2 s.scope 0 ≡ Some (value.Int g) → DoesAtOnce s common at (value.Int g) s.objects c2 9
  increments at start count a b d h i op amount n m g c1 c2 e forms keep change last there makes w1 kept has w2 given =
      let s1 = after s.objects c1 in
      let s2 = after s.objects c2 in
      let old = plus s keep.from keep.operand n 1 2 keep.plus (slot s keep.operand h i (value.Int n) keep.local there) refl in
      let first = subst (λ c. DoesAtOnce s common a value.Undefined s.objects c 3) (sym w1) (init_does s common a 0 0 (value.Int n) 2 3 keep.from keep.keeps old refl) in
      let left = slot s1 change.left 0 0 (value.Int n) change.kept kept in
      let right = literal s1 change.right amount change.behind in
      let new = binary s1 change.from op change.left change.right (value.Int n) (value.Int amount) (value.Int m) 1 1 3 change.makes (λ me shared p. calculates (naming_of me) shared op n amount m p makes) left right refl in
      let second = subst (λ c. DoesAtOnce s1 common b (value.Int m) s.objects c 4) (sym w2) (set_does s1 common b h i (value.Int m) 3 4 change.from change.sets new has refl) in
      let third = value_does s2 common d (value.Int g) 1 (slot s2 d 0 0 (value.Int g) last given) in
      three_do at start count a b d value.Undefined (value.Int m) (value.Int g) s.objects s.objects s.objects c1 c2 c2 3 4 1 9 e forms first second third refl

-- SLOTS OF TWO SCOPES

outer_kept : (ss : List (Scope Ref MadeSymbol)) (x : Scope Ref MadeSymbol) (s t : ℕ) → x.outer ≡ (scope_at ss s).outer → (scope_at (slice_set ss s x) t).outer ≡ (scope_at ss t).outer
outer_kept [] x s t e = refl
outer_kept (y ∷ ys) x zero zero e = e
outer_kept (y ∷ ys) x zero (suc t) e = refl
outer_kept (y ∷ ys) x (suc s) zero e = refl
outer_kept (y ∷ ys) x (suc s) (suc t) e = outer_kept ys x s t e

outwards_kept : (ss : List (Scope Ref MadeSymbol)) (s i : ℕ) (v : MachineValue) (h t : ℕ) → outwards (with_slot ss s i v) h t ≡ outwards ss h t
outwards_kept ss s i v zero t = refl
outwards_kept ss s i v (suc h) t = ap (outwards (with_slot ss s i v) h) (outer_kept ss (with_kept (scope_at ss s) i v) s t refl) ∙ outwards_kept ss s i v h (scope_at ss t).outer

slot_apart : (ss : List (Scope Ref MadeSymbol)) (s t i j : ℕ) (v : MachineValue) → (t ≡ s → ⊥) → slot_of (with_slot ss s i v) t j ≡ slot_of ss t j
slot_apart ss s t i j v apart = ap (λ (x : Scope Ref MadeSymbol). get_or x.slots j None) (get_or-set_other ss s t (with_kept (scope_at ss s) i v) no_scope apart)

-- one is kept in a scope, another one is written elsewhere
pub writes_both : (old c1 new : List (Scope Ref MadeSymbol)) (s t h i : ℕ) (n m : ℤ) → (t ≡ s → ⊥) → t ≡ outwards old h s → slot_of old t i ≡ Some (value.Int n) → c1 ≡ with_slot old s 0 (value.Int n) → slot_of c1 s 0 ≡ Some (value.Int n) → new ≡ with_slot c1 t i (value.Int m)
    → WritesBoth old new s h i n m n
writes_both old c1 new s t h i n m apart way there first kept second =
    let same : outwards c1 h s ≡ t = ap (λ ss. outwards ss h s) first ∙ outwards_kept old s 0 (value.Int n) h s ∙ sym way in
    record {
      between = c1;
      keeps = first;
      kept = kept;
      there = ap (λ k. is_some (slot_of c1 k i)) same ∙ ap (λ ss. is_some (slot_of ss t i)) first ∙ ap is_some (slot_apart old s t 0 i (value.Int n) apart ∙ there);
      sets = second ∙ ap (λ k. with_slot c1 k i (value.Int m)) (sym same);
      given = ap (λ ss. slot_of ss s 0) second ∙ slot_apart c1 t s i 0 (value.Int m) (λ e. apart (sym e)) ∙ kept;
    }

-- so came of a body what came of its slots
pub came_of : (x : Incremented) (s : Sight) (at start count a b d h i : ℕ) (op : BinaryOperator) (amount n m : ℤ) (new : List (Scope Ref MadeSymbol)) → HasRow s.code at (node.Seq start count) → part_of start count s.code.numbers ≡ a ∷ b ∷ d ∷ []
    → KeepsNumber s.code a h i → ChangesNumber s.code b h i op amount → HasRow s.code d (node.Local 0 0)
    → slot_of s.scopes (outwards s.scopes h s.scope) i ≡ Some (value.Int n) → number_or_end (numeric op n amount) ≡ Is m → IsIncremented x s.scopes new s.scope h i n m → CameOfBody x s at new
came_of (came.Gave g) s at start count a b d h i op amount n m new e forms keep change last there makes w = λ common.
    increments s common at start count a b d h i op amount n m g w.between new e forms keep change last there makes w.keeps w.kept w.there w.sets w.given
came_of came.Nothing s at start count a b d h i op amount n m new e forms keep change last there makes w = w
came_of came.Failed s at start count a b d h i op amount n m new e forms keep change last there makes w = tt

-- a list of three
pub three : (ns : List ℕ) → length ns ≡ 3 → ns ≡ slice_index ns 0 ∷ slice_index ns 1 ∷ slice_index ns 2 ∷ []
three [] e = cc
three (a ∷ []) e = cc
three (a ∷ b ∷ []) e = cc
three (a ∷ b ∷ d ∷ []) e = refl
three (a ∷ b ∷ d ∷ x ∷ ns) e = absurd (omega (arith, e))
