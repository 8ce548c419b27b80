-- Forms that give a value at once.
use Rattle.std.proofs.Common.{◌≡◌, ℕ, suc, ◌+◌, Bool, true, false, not, List, ◌∷◌, length, Option, Some, None, ℤ, IfSome, int_lt, ◌<◌, refl, sym, ap, ◌∙◌, subst, arith, eq-eqb, lt-ltb, if◌then◌else◌}
use Rattle.std.specs.Fmt.{signed_decimal}
use Rattle.std.specs.Ordering.{int_eq}
use Rattle.lava_base.specs.declared.ids.MadeSymbol.{MadeSymbol}
use Rattle.lava_base.specs.declared.ids.ObjId.{ObjId}
use Rattle.lava_base.specs.declared.ids.PartyId.{PartyId}
use Rattle.lava_base.specs.declared.ids.Ref.{Ref}
use Rattle.lava_base.specs.declared.ids.Ref.TheVariants as reference
use Rattle.js_text.specs.Indices.{key_of_text}
use Rattle.js_text.specs.Naming.{Foreign, Naming, Own, naming_of, origin_of}
use Rattle.js_text.specs.declared.value.Key.{Key}
use Rattle.js_text.specs.declared.value.Value.TheVariants as value
use Rattle.js_desc.specs.declared.ask.Ask.{Ask}
use Rattle.js_desc.specs.declared.ask.Ask.TheVariants as ask
use Rattle.js_desc.specs.declared.decision.EndKind.TheVariants as end
use Rattle.js_desc.specs.declared.reply.Reply.TheVariants as reply
use Rattle.js_tree.specs.declared.operator.BinaryOperator.{BinaryOperator}
use Rattle.js_tree.specs.declared.operator.BinaryOperator.TheVariants as op
use Rattle.js_tree.specs.declared.operator.UnaryOperator.TheVariants as unary_op
use Rattle.js_term.specs.declared.term.Term.{out-Term}
use Rattle.js_code.specs.Decoded.{layer_of, term_at, text_at}
use Rattle.js_code.specs.declared.node.Node.{Node}
use Rattle.js_code.specs.declared.node.Node.TheVariants as node
use Rattle.js_store.specs.Objects.{Object, object_at}
use Rattle.js_store.specs.declared.slot.Slot.{Slot}
use Rattle.js_store.specs.declared.slot.Slot.TheVariants as kept
use Rattle.js_state.specs.Scopes.{outwards, slot_of}
use Rattle.js_ordinary.specs.OrdinaryGet.{get_own}
use Rattle.js_ordinary.specs.Origins.{object_of, there}
use Rattle.js_operation.specs.Computing.{number_or_end}
use Rattle.js_operation.specs.Deeds.{MachineParty}
use Rattle.js_operation.specs.Operating.{MachineValue}
use Rattle.js_operation.specs.declared.operation.Computed.TheVariants.{Is, End}
use Rattle.js_operation.specs.js_exotic.Decided.{decided, decided_there}
use Rattle.js_operation.specs.js_exotic.Verdicts.{as_exotic}
use Rattle.js_operation.specs.js_run.Acts as acts
use Rattle.js_operation.specs.js_run.Acts.{Next, ask_there, asks_value, give, with_value}
use Rattle.js_operation.specs.js_run.Completions as halt
use Rattle.js_operation.specs.js_run.Completions.{Replied}
use Rattle.js_operation.specs.js_run.Decisions.{decides, decides_by_slot, follows_with}
use Rattle.js_operation.specs.js_run.Operators.{binary_value, given_number, is_safe, numeric, unary_value}
use Rattle.js_operation.specs.js_run.Parties.{Shared, running}
use Rattle.js_operation.specs.js_run.Properties.{read_slot}
use Rattle.js_operation.specs.js_run.Rows.{binary_left, get_key, get_object, row_at}
use Rattle.js_operation.specs.js_run.Truth.{to_boolean}
use Rattle.js_operation.specs.js_run.Runs.{Begins, Charged, Decides, Due, Env, Gives, answered, charge, run_for, settle}
use Rattle.js_direct.specs.Direct.{GivesAtOnce, GivesNumber, GivesTruth, HasData, IsDirect, IsDirectNamed, IsDirectRow, IsNumberRow, IsTruthRow, Sight, compared, is_proxy, key_named, own_object, value_of}
use Rattle.js_direct.specs.declared.direct.Direct.{Direct}
use Rattle.js_direct.specs.declared.numbers.Counted.{Counted}
use Rattle.js_direct.specs.declared.plain.Plain.{Plain}
use Rattle.js_direct.specs.declared.plain.Plain.TheVariants as plain
use Rattle.js_direct.specs.declared.truths.Truth.{Truth}
use Rattle.js_direct.proofs.Charges.{one, part}

-- WHAT OPERATORS GIVE

safe_given : (b : Bool) (m n : ℤ) (p : MachineParty) → (if b then Is m else End end.Number) ≡ Is n → (if b then give (value.Int m) p else acts.End halt.Number) ≡ give (value.Int n) p
safe_given true m n p e = let same : m ≡ n = cc in ap (λ i. give (value.Int i) p) same
safe_given false m n p e = cc

given : (x : Option ℤ) (n : ℤ) (p : MachineParty) → number_or_end x ≡ Is n → given_number x p ≡ give (value.Int n) p
given None n p e = cc
given (Some m) n p e = safe_given (is_safe m) m n p e

-- an operator on two numbers that gives a number
pub calculates : (names : Naming Ref MadeSymbol) (shared : Shared) (o : BinaryOperator) (a b n : ℤ) (p : MachineParty) → number_or_end (numeric o a b) ≡ Is n → binary_value names shared o (value.Int a) (value.Int b) p ≡ give (value.Int n) p
calculates names shared op.Exponentiate a b n p e = given (numeric op.Exponentiate a b) n p e
calculates names shared op.Multiply a b n p e = given (numeric op.Multiply a b) n p e
calculates names shared op.Divide a b n p e = given (numeric op.Divide a b) n p e
calculates names shared op.Remainder a b n p e = given (numeric op.Remainder a b) n p e
calculates names shared op.Add a b n p e = given (numeric op.Add a b) n p e
calculates names shared op.Subtract a b n p e = given (numeric op.Subtract a b) n p e
calculates names shared op.LeftShift a b n p e = given (numeric op.LeftShift a b) n p e
calculates names shared op.SignedRightShift a b n p e = given (numeric op.SignedRightShift a b) n p e
calculates names shared op.UnsignedRightShift a b n p e = given (numeric op.UnsignedRightShift a b) n p e
calculates names shared op.BitwiseAnd a b n p e = given (numeric op.BitwiseAnd a b) n p e
calculates names shared op.BitwiseXor a b n p e = given (numeric op.BitwiseXor a b) n p e
calculates names shared op.BitwiseOr a b n p e = given (numeric op.BitwiseOr a b) n p e
calculates names shared op.Less a b n p e = cc
calculates names shared op.Greater a b n p e = cc
calculates names shared op.LessOrEqual a b n p e = cc
calculates names shared op.GreaterOrEqual a b n p e = cc
calculates names shared op.Instanceof a b n p e = cc
calculates names shared op.In a b n p e = cc
calculates names shared op.LooselyEqual a b n p e = cc
calculates names shared op.LooselyUnequal a b n p e = cc
calculates names shared op.StrictlyEqual a b n p e = cc
calculates names shared op.StrictlyUnequal a b n p e = cc

same_truth : (x y : Bool) (p : MachineParty) → Some x ≡ Some y → give (value.Bool x) p ≡ give (value.Bool y) p
same_truth x y p e = let same : x ≡ y = cc in ap (λ b. give (value.Bool b) p) same

-- an operator that compares two numbers
pub compares : (names : Naming Ref MadeSymbol) (shared : Shared) (o : BinaryOperator) (a b : ℤ) (t : Bool) (p : MachineParty) → compared o a b ≡ Some t → binary_value names shared o (value.Int a) (value.Int b) p ≡ give (value.Bool t) p
compares names shared op.Less a b t p e = same_truth (int_lt a b) t p e
compares names shared op.Greater a b t p e = same_truth (int_lt b a) t p e
compares names shared op.LessOrEqual a b t p e = same_truth (not (int_lt b a)) t p e
compares names shared op.GreaterOrEqual a b t p e = same_truth (not (int_lt a b)) t p e
compares names shared op.LooselyEqual a b t p e = same_truth (int_eq a b) t p e
compares names shared op.LooselyUnequal a b t p e = same_truth (not (int_eq a b)) t p e
compares names shared op.StrictlyEqual a b t p e = same_truth (int_eq a b) t p e
compares names shared op.StrictlyUnequal a b t p e = same_truth (not (int_eq a b)) t p e
compares names shared op.Exponentiate a b t p e = cc
compares names shared op.Multiply a b t p e = cc
compares names shared op.Divide a b t p e = cc
compares names shared op.Remainder a b t p e = cc
compares names shared op.Add a b t p e = cc
compares names shared op.Subtract a b t p e = cc
compares names shared op.LeftShift a b t p e = cc
compares names shared op.SignedRightShift a b t p e = cc
compares names shared op.UnsignedRightShift a b t p e = cc
compares names shared op.Instanceof a b t p e = cc
compares names shared op.In a b t p e = cc
compares names shared op.BitwiseAnd a b t p e = cc
compares names shared op.BitwiseXor a b t p e = cc
compares names shared op.BitwiseOr a b t p e = cc

-- PROPERTIES

-- the own data property of an object of the party decides a Get
module _ (me : ℕ) (shared : Shared) where
  -- every object but a proxy decides of a Get by its table
  by_slot : (r : Ref) (t : Slot Ref MadeSymbol) (callable : Bool) (k : Key MadeSymbol) (receiver : MachineValue) (p : MachineParty) → is_proxy t ≡ false
      → decides_by_slot (naming_of me) shared r t callable (ask.Get k receiver) p ≡ follows_with (naming_of me) shared r (decided (naming_of me) p.objects shared.objects r (ask.Get k receiver)) p
  by_slot r kept.Plain callable k receiver p e = refl
  by_slot r (kept.Closure body home lexical) callable k receiver p e = refl
  by_slot r (kept.Held h) callable k receiver p e = refl
  by_slot r (kept.Bound target this args) callable k receiver p e = refl
  by_slot r (kept.Proxy o) callable k receiver p e = cc
  by_slot r (kept.Table es) callable k receiver p e = refl
  by_slot r (kept.Chamber g) callable k receiver p e = refl
  by_slot r (kept.Promised x) callable k receiver p e = refl
  by_slot r (kept.Namespace sc ex) callable k receiver p e = refl

  pub own_origin : (id : ℕ) → origin_of me (reference.Own (record { 0 = me }) (record { 0 = id })) ≡ Own id
  own_origin id = ap (λ b. if b then Own id else Foreign) (eq-eqb me me refl)

  pub data_decided : (id : ℕ) (k : Key MadeSymbol) (v receiver : MachineValue) (p : MachineParty) → HasData p.objects id k v
      → decides (naming_of me) shared (own_object me id) (ask.Get k receiver) p ≡ give v p
  data_decided id k v receiver p d =
      let names = naming_of me in
      let r : Ref = reference.Own (record { 0 = me }) (record { 0 = id }) in
      let from : origin_of me r ≡ Own id = own_origin id in
      ap (λ (o : Object Ref MadeSymbol). decides_by_slot names shared r o.slot o.marks.callable (ask.Get k receiver) p) (ap (object_of names.common p.objects shared.objects) from)
      ∙ by_slot r (object_at p.objects id).slot (object_at p.objects id).marks.callable k receiver p d.decides
      ∙ ap (λ x. follows_with names shared r x p) (
      ap (λ o. decided_there names p.objects shared.objects r (ask.Get k receiver) (there p.objects shared.objects o)) from
      ∙ ap (λ b. decided_there names p.objects shared.objects r (ask.Get k receiver) (if b then Some (Own id) else None)) (lt-ltb id (length p.objects) d.there)
      ∙ ap (λ x. (as_exotic (get_own k receiver (object_at p.objects id).prototype x), p.objects)) d.found)

-- the ask of an own object is decided
pub own_asked : (me id : ℕ) (x : Ask Ref MadeSymbol) (p : MachineParty) (next : Next Ref MadeSymbol) → asks_value (naming_of me) (own_object me id) x p next ≡ acts.Decide (own_object me id) x p next
own_asked me id x p next = ap (λ b. ask_there (if b then Own id else Foreign) (reference.Own (record { 0 = me }) (record { 0 = id })) x p next) (eq-eqb me me refl)

-- a number or a text is a key at once
gets : (me id : ℕ) (shared : Shared) (w : MachineValue) (k : Key MadeSymbol) (p : MachineParty) → key_named w ≡ Some k
    → get_key (naming_of me) shared (own_object me id) w p ≡ asks_value (naming_of me) (own_object me id) (ask.Get k (own_object me id)) p (with_value give)
gets me id shared (value.Int n) k p e = let same : key_of_text (signed_decimal n) ≡ k = cc in ap (λ x. asks_value (naming_of me) (own_object me id) (ask.Get x (own_object me id)) p (with_value give)) same
gets me id shared (value.Text t) k p e = let same : key_of_text t ≡ k = cc in ap (λ x. asks_value (naming_of me) (own_object me id) (ask.Get x (own_object me id)) p (with_value give)) same
gets me id shared value.Undefined k p e = cc
gets me id shared value.Null k p e = cc
gets me id shared (value.Bool b) k p e = cc
gets me id shared (value.Symbol s) k p e = cc
gets me id shared (value.Ref r) k p e = cc

-- FORMS

module _ (s : Sight) (at : ℕ) where
  abbrev pub IsRow : Node → Type 0
  IsRow n = out-Term (term_at s.code at) ≡ layer_of s.code (term_at s.code) n

  -- what the row of a form leads to, once it is charged
  pub begun : (shared : Shared) (env : Env Ref) (p : MachineParty) (ks : List (Next Ref MadeSymbol)) (charges limit steps : ℕ) (n : Node) → IsRow n → charge p.meter steps limit 1 ≡ Charged
      → run_for (naming_of s.me) shared env (suc charges) limit steps (Due 0 (Begins (term_at s.code at)) p ks)
      ≡ run_for (naming_of s.me) shared env charges limit (steps + 1) (settle (naming_of s.me) shared env ks (answered (naming_of s.me) env (row_at (naming_of s.me) shared (layer_of s.code (term_at s.code) n) p)))
  begun shared env p ks charges limit steps n e a =
      one (naming_of s.me) shared env charges limit steps (Begins (term_at s.code at)) p ks a
      ∙ ap (λ l. run_for (naming_of s.me) shared env charges limit (steps + 1) (settle (naming_of s.me) shared env ks (answered (naming_of s.me) env (row_at (naming_of s.me) shared l p)))) e

  -- a form whose row gives a value
  gives_row : (n : Node) (v : MachineValue) → IsRow n → ((shared : Shared) (p : MachineParty) → row_at (naming_of s.me) shared (layer_of s.code (term_at s.code) n) p ≡ give v p) → GivesAtOnce s at v 1
  gives_row n v e does =
      record {
        gives = λ shared env p ks charges limit steps o t u a.
            (let count : 1 + charges ≡ suc charges = omega arith in
            ap (λ m. run_for (naming_of s.me) shared env m limit steps (Due 0 (Begins (term_at s.code at)) p ks)) count ∙ begun shared env p ks charges limit steps n e a
            ∙ ap (λ x. run_for (naming_of s.me) shared env charges limit (steps + 1) (settle (naming_of s.me) shared env ks (answered (naming_of s.me) env x))) (does shared p));
      }

  -- literals
  pub literal : (n : ℤ) → IsRow (node.Int n) → GivesAtOnce s at (value.Int n) 1
  literal n e = gives_row (node.Int n) (value.Int n) e (λ shared p. refl)

  pub undefined : IsRow node.Undefined → GivesAtOnce s at value.Undefined 1
  undefined e = gives_row node.Undefined value.Undefined e (λ shared p. refl)

  pub null : IsRow node.Null → GivesAtOnce s at value.Null 1
  null e = gives_row node.Null value.Null e (λ shared p. refl)

  pub truth : (b : Bool) → IsRow (node.Bool b) → GivesAtOnce s at (value.Bool b) 1
  truth b e = gives_row (node.Bool b) (value.Bool b) e (λ shared p. refl)

  pub name : (t : ℕ) → IsRow (node.Text t) → GivesAtOnce s at (value.Text (text_at s.code t)) 1
  name t e = gives_row (node.Text t) (value.Text (text_at s.code t)) e (λ shared p. refl)

  -- a slot that has a value
  pub slot : (h i : ℕ) (v : MachineValue) → IsRow (node.Local h i) → slot_of s.scopes (outwards s.scopes h s.scope) i ≡ Some v → GivesAtOnce s at v 1
  slot h i v e f =
      record {
        gives = λ shared env p ks charges limit steps o t u a.
            (let there : slot_of p.scopes (outwards p.scopes h (running p).scope) i ≡ Some v = (λ j. slot_of (t j) (outwards (t j) h (u j)) i) ∙ f in
            let count : 1 + charges ≡ suc charges = omega arith in
            ap (λ m. run_for (naming_of s.me) shared env m limit steps (Due 0 (Begins (term_at s.code at)) p ks)) count
            ∙ begun shared env p ks charges limit steps (node.Local h i) e a
            ∙ ap (λ o. run_for (naming_of s.me) shared env charges limit (steps + 1) (settle (naming_of s.me) shared env ks (answered (naming_of s.me) env (read_slot (naming_of s.me) o p)))) there);
      }

  -- `+` of a number
  pub plus : (operand : ℕ) (n : ℤ) (k all : ℕ) → IsRow (node.Unary unary_op.Plus operand) → GivesAtOnce s operand (value.Int n) k → all ≡ 1 + k → GivesAtOnce s at (value.Int n) all
  plus operand n k all e first sum =
      record {
        gives = λ shared env p ks charges limit steps o t u a.
            (let names = naming_of s.me in
            let next : Next Ref MadeSymbol = with_value (unary_value names shared unary_op.Plus) in
            let one_left : charge p.meter steps limit 1 ≡ Charged = part p.meter steps steps limit 1 all (omega (arith, sum)) a in
            let all_left : charge p.meter (steps + 1) limit k ≡ Charged = part p.meter steps (steps + 1) limit k all (omega (arith, sum)) a in
            let count : all + charges ≡ suc (k + charges) = omega (arith, sum) in
            let paid : steps + 1 + k ≡ steps + all = omega (arith, sum) in
            ap (λ m. run_for names shared env m limit steps (Due 0 (Begins (term_at s.code at)) p ks)) count
            ∙ begun shared env p ks (k + charges) limit steps (node.Unary unary_op.Plus operand) e one_left
            ∙ first.gives shared env p (next ∷ ks) charges limit (steps + 1) o t u all_left
            ∙ ap (λ m. run_for names shared env charges limit m (settle names shared env ks (Gives (Replied (reply.Value (value.Int n))) p))) paid);
      }

  -- an operator with two operands
  pub binary : (o : BinaryOperator) (left right : ℕ) (x y v : MachineValue) (i j all : ℕ) → IsRow (node.Binary o left right)
      → ((me : ℕ) (shared : Shared) (p : MachineParty) → binary_value (naming_of me) shared o x y p ≡ give v p)
      → GivesAtOnce s left x i → GivesAtOnce s right y j → all ≡ 1 + i + j → GivesAtOnce s at v all
  binary o left right x y v i j all e does first second sum =
      record {
        gives = λ shared env p ks charges limit steps h t u a.
            (let names = naming_of s.me in
            let has_none : Next Ref MadeSymbol = with_value (binary_left names shared o (term_at s.code right)) in
            let has_left : Next Ref MadeSymbol = with_value (binary_value names shared o x) in
            let one_left : charge p.meter steps limit 1 ≡ Charged = part p.meter steps steps limit 1 all (omega (arith, sum)) a in
            let some_left : charge p.meter (steps + 1) limit i ≡ Charged = part p.meter steps (steps + 1) limit i all (omega (arith, sum)) a in
            let all_left : charge p.meter (steps + 1 + i) limit j ≡ Charged = part p.meter steps (steps + 1 + i) limit j all (omega (arith, sum)) a in
            let count : all + charges ≡ suc (i + (j + charges)) = omega (arith, sum) in
            let paid : steps + 1 + i + j ≡ steps + all = omega (arith, sum) in
            ap (λ m. run_for names shared env m limit steps (Due 0 (Begins (term_at s.code at)) p ks)) count
            ∙ begun shared env p ks (i + (j + charges)) limit steps (node.Binary o left right) e one_left
            ∙ first.gives shared env p (has_none ∷ ks) (j + charges) limit (steps + 1) h t u some_left
            ∙ second.gives shared env p (has_left ∷ ks) charges limit (steps + 1 + i) h t u all_left
            ∙ ap (λ act. run_for names shared env charges limit (steps + 1 + i + j) (settle names shared env ks (answered names env act))) (does s.me shared p)
            ∙ ap (λ m. run_for names shared env charges limit m (settle names shared env ks (Gives (Replied (reply.Value v)) p))) paid);
      }

  -- an own data property of an object of the party
  pub property : (object key id : ℕ) (w v : MachineValue) (k : Key MadeSymbol) (j all : ℕ) → IsRow (node.Get object key) → GivesAtOnce s object (own_object s.me id) 1 → GivesAtOnce s key w j → key_named w ≡ Some k → HasData s.objects id k v
      → all ≡ 3 + j → GivesAtOnce s at v all
  property object key id w v k j all e first second named has sum =
      record {
        gives = λ shared env p ks charges limit steps h t u a.
            (let names = naming_of s.me in
            let o = own_object s.me id in
            let has_none : Next Ref MadeSymbol = with_value (get_object names shared (term_at s.code key)) in
            let has_object : Next Ref MadeSymbol = with_value (get_key names shared o) in
            let has_key : Next Ref MadeSymbol = with_value give in
            let one_left : charge p.meter steps limit 1 ≡ Charged = part p.meter steps steps limit 1 all (omega (arith, sum)) a in
            let some_left : charge p.meter (steps + 1) limit 1 ≡ Charged = part p.meter steps (steps + 1) limit 1 all (omega (arith, sum)) a in
            let key_left : charge p.meter (steps + 1 + 1) limit j ≡ Charged = part p.meter steps (steps + 1 + 1) limit j all (omega (arith, sum)) a in
            let all_left : charge p.meter (steps + 1 + 1 + j) limit 1 ≡ Charged = part p.meter steps (steps + 1 + 1 + j) limit 1 all (omega (arith, sum)) a in
            let count : all + charges ≡ suc (1 + (j + suc charges)) = omega (arith, sum) in
            let paid : steps + 1 + 1 + j + 1 ≡ steps + all = omega (arith, sum) in
            ap (λ m. run_for names shared env m limit steps (Due 0 (Begins (term_at s.code at)) p ks)) count
            ∙ begun shared env p ks (1 + (j + suc charges)) limit steps (node.Get object key) e one_left
            ∙ first.gives shared env p (has_none ∷ ks) (j + suc charges) limit (steps + 1) h t u some_left
            ∙ second.gives shared env p (has_object ∷ ks) (suc charges) limit (steps + 1 + 1) h t u key_left
            ∙ ap (λ act. run_for names shared env (suc charges) limit (steps + 1 + 1 + j) (settle names shared env ks (answered names env act))) (gets s.me id shared w k p named)
            ∙ ap (λ act. run_for names shared env (suc charges) limit (steps + 1 + 1 + j) (settle names shared env ks (answered names env act))) (own_asked s.me id (ask.Get k o) p has_key)
            ∙ one names shared env charges limit (steps + 1 + 1 + j) (Decides o (ask.Get k o)) p (has_key ∷ ks) all_left
            ∙ ap (λ act. run_for names shared env charges limit (steps + 1 + 1 + j + 1) (settle names shared env (has_key ∷ ks) (answered names env act))) (data_decided s.me shared id k v o p (subst (λ os. HasData os id k v) (sym h) has))
            ∙ ap (λ m. run_for names shared env charges limit m (settle names shared env ks (Gives (Replied (reply.Value v)) p))) paid);
      }

-- WHAT THE CODE GIVES

-- a slot that has an object of the party
pub own_slot : (s : Sight) (at h i k : ℕ) (n : Node) (p : PartyId) (id : ObjId) → out-Term (term_at s.code at) ≡ layer_of s.code (term_at s.code) n → n ≡ node.Local h i → slot_of s.scopes k i ≡ Some (value.Ref (reference.Own p id)) → k ≡ outwards s.scopes h s.scope
    → p.0 ≡ s.me → GivesAtOnce s at (own_object s.me id.0) 1
own_slot s at h i k n p id e f there same mine =
    subst (λ (q : ℕ). GivesAtOnce s at (value.Ref (reference.Own (record { 0 = q }) id)) 1) mine
    (slot s at h i (value.Ref (reference.Own p id)) (e ∙ ap (layer_of s.code (term_at s.code)) f) (ap (λ j. slot_of s.scopes j i) (sym same) ∙ there))

pub name_at : (s : Sight) (key t : ℕ) (n : Node) → out-Term (term_at s.code key) ≡ layer_of s.code (term_at s.code) n → n ≡ node.Text t → GivesAtOnce s key (value.Text (text_at s.code t)) 1
name_at s key t n e f = name s key t (e ∙ ap (layer_of s.code (term_at s.code)) f)

module _ (s : Sight) (at : ℕ) where
  row_is : (n m : Node) → IsRow s at n → n ≡ m → IsRow s at m
  row_is n m e f = e ∙ ap (layer_of s.code (term_at s.code)) f

  pub number_literal : (n : Node) (i : ℤ) → IsRow s at n → n ≡ node.Int i → GivesNumber s at (record { number = i; steps = 1 })
  number_literal n i e f = literal s at i (row_is n (node.Int i) e f)

  pub number_slot : (n : Node) (h i : ℕ) (c : Counted) → IsRow s at n → n ≡ node.Local h i
      → (0 < c.steps → (slot_of s.scopes (outwards s.scopes h s.scope) i ≡ Some (value.Int c.number)) × (c.steps ≡ 1)) → 0 < c.steps → GivesNumber s at c
  number_slot n h i c e f g l = let (v, k) = g l in subst (λ m. GivesAtOnce s at (value.Int c.number) m) (sym k) (slot s at h i (value.Int c.number) (row_is n (node.Local h i) e f) v)

  -- the form at a place has this row
  pub number_row : (n m : Node) (c : Counted) → IsRow s at n → n ≡ m → (0 < c.steps → IsNumberRow s m c) → 0 < c.steps → GivesNumber s at c
  number_row n m c e f g l = g l at (row_is n m e f)

module _ (s : Sight) where
  pub number_binary : (op : BinaryOperator) (left right : ℕ) (c x y : Counted) → (0 < x.steps → GivesNumber s left x) → 0 < x.steps → (0 < y.steps → GivesNumber s right y) → 0 < y.steps
      → (0 < c.steps → number_or_end (numeric op x.number y.number) ≡ Is c.number) → (0 < c.steps → c.steps ≡ 1 + x.steps + y.steps) → 0 < c.steps → IsNumberRow s (node.Binary op left right) c
  number_binary op left right c x y g lx h ly v k l =
      λ at e. binary s at op left right (value.Int x.number) (value.Int y.number) (value.Int c.number) x.steps y.steps c.steps e (λ me shared p. calculates (naming_of me) shared op x.number y.number c.number p (v l)) (g lx) (h ly) (k l)

  pub number_plus : (operand k : ℕ) (x : Counted) → (0 < x.steps → GivesNumber s operand x) → 0 < x.steps → (0 < k → k ≡ 1 + x.steps + 0) → 0 < k → IsNumberRow s (node.Unary unary_op.Plus operand) (record { number = x.number; steps = k })
  number_plus operand k x g lx sum l = let counted = sum l in λ at e. plus s at operand x.number x.steps k e (g lx) (omega (arith, counted))

  pub number_named : (m : Node) (object key text id : ℕ) (c : Counted) → GivesAtOnce s object (own_object s.me id) 1 → out-Term (term_at s.code key) ≡ layer_of s.code (term_at s.code) m → m ≡ node.Text text
      → (0 < c.steps → HasData s.objects id (key_of_text (text_at s.code text)) (value.Int c.number) × (c.steps ≡ 4)) → 0 < c.steps → IsNumberRow s (node.Get object key) c
  number_named m object key text id c g t y d l =
      let (has, k) = d l in
      λ at e. property s at object key id (value.Text (text_at s.code text)) (value.Int c.number) (key_of_text (text_at s.code text)) 1 c.steps e g (name_at s key text m t y) refl has (omega (arith, k))

  pub number_indexed : (object key id : ℕ) (c x : Counted) → GivesAtOnce s object (own_object s.me id) 1 → (0 < x.steps → GivesNumber s key x) → 0 < x.steps
      → (0 < c.steps → HasData s.objects id (key_of_text (signed_decimal x.number)) (value.Int c.number) × (c.steps ≡ 3 + x.steps)) → 0 < c.steps → IsNumberRow s (node.Get object key) c
  number_indexed object key id c x g h lx d l =
      let (has, k) = d l in
      λ at e. property s at object key id (value.Int x.number) (value.Int c.number) (key_of_text (signed_decimal x.number)) x.steps c.steps e g (h lx) refl has k

  -- how two numbers compare
  pub truth_binary : (op : BinaryOperator) (left right k : ℕ) (b : Bool) (r : Option Bool) (x y : Counted) → (0 < x.steps → GivesNumber s left x) → 0 < x.steps → (0 < y.steps → GivesNumber s right y) → 0 < y.steps
      → r ≡ compared op x.number y.number → r ≡ Some b → (0 < k → k ≡ 1 + x.steps + y.steps) → 0 < k → IsTruthRow s (node.Binary op left right) (record { truth = b; steps = k })
  truth_binary op left right k b r x y g lx h ly e f sum l =
      λ at i. binary s at op left right (value.Int x.number) (value.Int y.number) (value.Bool b) x.steps y.steps k i (λ me shared p. compares (naming_of me) shared op x.number y.number b p (sym e ∙ f)) (g lx) (h ly) (sum l)

  -- the truth value that a form with this row gives
  pub truth_row : (at : ℕ) (n m : Node) (t : Truth) → out-Term (term_at s.code at) ≡ layer_of s.code (term_at s.code) n → n ≡ m → (0 < t.steps → IsTruthRow s m t) → 0 < t.steps → GivesTruth s at t
  truth_row at n m t e f g l = record { value = value.Bool t.truth; gives = g l at (row_is s at n m e f); truth = refl }

  -- the truth value of what a form gives
  pub truth_any : (at k : ℕ) (v : Plain) (b : Bool) → (0 < k → GivesAtOnce s at (value_of v) k) → b ≡ to_boolean (value_of v) → 0 < k → GivesTruth s at (record { truth = b; steps = k })
  truth_any at k v b g e l = record { value = value_of v; gives = g l; truth = sym e }

-- WHAT ANY FORM GIVES

module _ (s : Sight) where
  -- a truth value
  pub direct_truth : (n : Node) (t : Truth) → (0 < t.steps → IsTruthRow s n t) → 0 < t.steps → IsDirectRow s n (record { value = plain.Bool t.truth; steps = t.steps })
  direct_truth n t g l = λ at e. g l at e

  pub direct_named : (object key text id : ℕ) (v : Plain) → GivesAtOnce s object (own_object s.me id) 1 → HasData s.objects id (key_of_text (text_at s.code text)) (value_of v) → IsDirectNamed s object key text (record { value = v; steps = 4 })
  direct_named object key text id v g d = λ t at e. property s at object key id (value.Text (text_at s.code text)) (value_of v) (key_of_text (text_at s.code text)) 1 4 e g (name s key text t) refl d refl

  pub direct_indexed : (object key id : ℕ) (x : Counted) (v : Plain) (k : ℕ) → GivesAtOnce s object (own_object s.me id) 1 → (0 < x.steps → GivesNumber s key x) → 0 < x.steps → HasData s.objects id (key_of_text (signed_decimal x.number)) (value_of v) → (0 < k → k ≡ 1 + 2 + x.steps) → 0 < k
      → IsDirectRow s (node.Get object key) (record { value = v; steps = k })
  direct_indexed object key id x v k g h lx d sum l = let counted = sum l in λ at e. property s at object key id (value.Int x.number) (value_of v) (key_of_text (signed_decimal x.number)) x.steps k e g (h lx) refl d (omega (arith, counted))

  -- the row at a place is that one
  pub at_row : (at : ℕ) (n m : Node) (r : Option Direct) → out-Term (term_at s.code at) ≡ layer_of s.code (term_at s.code) n → n ≡ m → IfSome r (IsDirectRow s m) → IfSome r (IsDirect s at)
  at_row at n m (Some d) e f h = h at (e ∙ ap (layer_of s.code (term_at s.code)) f)
  at_row at n m None e f h = tt
