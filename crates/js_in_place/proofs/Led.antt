-- Where acts lead in place.
use Rattle.std.proofs.Common.{◌≡◌, ℕ, suc, ℤ, ◌+◌, ◌-◌, ◌≤◌, Bool, true, false, is_some, List, [], ◌∷◌, drop, get_or, length, map, Option, Some, None, refl, sym, ap, ◌∙◌, subst, arith, Result, Ok, Err, IfOk, if◌then◌else◌}
use Rattle.std.specs.Option.{option_map}
use Rattle.lava_base.specs.declared.ids.MadeSymbol.{MadeSymbol}
use Rattle.lava_base.specs.declared.ids.Ref.{Ref}
use Rattle.js_text.specs.Naming.{naming_of}
use Rattle.js_text.specs.declared.value.Value.{Value}
use Rattle.js_text.specs.declared.value.Value.TheVariants as value
use Rattle.js_code.specs.Decoded.{no_turn_row, term_at}
use Rattle.js_code.specs.Tables.{part_of}
use Rattle.js_code.specs.declared.node.TurnRow.{TurnRow}
use Rattle.js_direct.specs.Direct.{value_of}
use Rattle.js_direct.specs.declared.plain.Plain.{Plain}
use Rattle.js_direct.specs.declared.plain.Plain.TheVariants as plain
use Rattle.js_direct.proofs.Given.{calculates}
use Rattle.js_tree.specs.declared.operator.BinaryOperator.{BinaryOperator}
use Rattle.js_state.specs.Scopes.{outwards, slot_of}
use Rattle.js_machine.specs.Bodies.{scope_of, stood_in}
use Rattle.js_machine.specs.Opened.{without_body}
use Rattle.js_machine.specs.Steps.{deed_with, settles, under}
use Rattle.js_machine.specs.Views.{View, fitting, party_of, top, turns_at, with_local}
use Rattle.js_machine.specs.declared.frame.Frame.{Frame}
use Rattle.js_machine.specs.declared.frame.Frame.TheVariants as frame
use Rattle.js_machine.specs.js_run.Acts.{Become, Evaluate, Tested, Turned, give, next_turn, with_value}
use Rattle.js_machine.specs.js_run.Control.{branch, in_order, otherwise}
use Rattle.js_machine.specs.js_run.Operators.{binary_value, numeric}
use Rattle.js_machine.specs.js_run.Properties.{write_slot}
use Rattle.js_machine.specs.js_run.Runs.{answered}
use Rattle.js_machine.specs.js_run.Truth.{to_boolean}
use Rattle.js_machine.specs.js_operation.Computing.{number_or_end}
use Rattle.js_machine.specs.js_operation.declared.operation.Computed.TheVariants.{Is}
use Rattle.js_machine.proofs.Listed.{part_first, part_within}
use Rattle.js_in_place.specs.InPlace.{LedTo, WaitsIn}
use Rattle.js_in_place.specs.declared.spot.Spot.TheVariants as spot
use Rattle.js_in_place.specs.declared.spot.Stand.{Stand}

-- where a form begins, and where a value is given
abbrev pub form_stand : (at left : ℕ) → Stand
form_stand at left = record { spot = spot.Form at; left = left; further = true }

abbrev pub value_stand : Plain → (left : ℕ) → Stand
value_stand v left = record { spot = spot.Given v; left = left; further = true }

-- a frame waits
pub waited_in : (f : Frame) (at left : ℕ) (old new : View) (s : Stand) → new ≡ record old { frames = f ∷ old.frames } → s ≡ form_stand at left → WaitsIn f at left old new s
waited_in f at left old new s e d =
    subst (λ (x : Stand). WaitsIn f at left old new x) (sym d)
    (subst (λ w. WaitsIn f at left old w (form_stand at left)) (sym e) (record { leads = λ a. refl; keeps = (refl, (refl, (refl, (refl, refl)))); stays = refl }))

-- a value is given, and a form takes the place of another one
pub given_in : (v : Plain) (left : ℕ) (old : View) (s : Stand) → s ≡ value_stand v left → LedTo (λ a. give (value_of v) (party_of a old)) left old old s
given_in v left old s e = subst (λ (x : Stand). LedTo (λ a. give (value_of v) (party_of a old)) left old old x) (sym e) (record { leads = λ a. refl; keeps = (refl, (refl, (refl, (refl, refl)))); stays = refl })

pub became_in : (at left : ℕ) (old : View) (s : Stand) → s ≡ form_stand at left → LedTo (λ a. Become (term_at old.code at) (party_of a old)) left old old s
became_in at left old s e = subst (λ (x : Stand). LedTo (λ a. Become (term_at old.code at) (party_of a old)) left old old x) (sym e) (record { leads = λ a. refl; keeps = (refl, (refl, (refl, (refl, refl)))); stays = refl })

-- LISTS

abbrev Ordered : List ℕ → (left : ℕ) → View → View → Stand → Type 0
Ordered ns left old new s = LedTo (λ a. in_order (map (term_at old.code) ns) (party_of a old)) left old new s

none_by : (ns : List ℕ) (left : ℕ) (old new : View) (s : Stand) → 0 ≡ length ns → LedTo (λ a. give value.Undefined (party_of a old)) left old new s → Ordered ns left old new s
none_by [] left old new s e h = h
none_by (n ∷ ns) left old new s e h = cc

one_by : (n : ℕ) (ns : List ℕ) (left : ℕ) (old new : View) (s : Stand) → 1 ≡ length (n ∷ ns) → LedTo (λ a. Become (term_at old.code n) (party_of a old)) left old new s → Ordered (n ∷ ns) left old new s
one_by n [] left old new s e h = h
one_by n (k ∷ ns) left old new s e h = cc

more_by : {E : Type 0} (r : Result Stand E) (n : ℕ) (ns : List ℕ) (left : ℕ) (old new : View) → 2 ≤ length (n ∷ ns)
    → IfOk r (LedTo (λ a. Evaluate (term_at old.code n) (party_of a old) (with_value (λ v p. in_order (map (term_at old.code) ns) p))) left old new) → IfOk r (Ordered (n ∷ ns) left old new)
more_by r n [] left old new l h = absurd (omega (arith, l))
more_by r n (k ∷ ns) left old new l h = h

pub none_left : (n s c left : ℕ) (old : View) (x : Stand) → n ≡ length (part_of s c old.code.numbers) → n ≡ 0 → x ≡ value_stand plain.Undefined left → Ordered (part_of s c old.code.numbers) left old old x
none_left n s c left old x e z d = none_by (part_of s c old.code.numbers) left old old x (sym z ∙ e) (given_in plain.Undefined left old x d)

pub one_left : (n s c at left : ℕ) (old : View) (x : Stand) → n ≡ length (part_of s c old.code.numbers) → n ≡ 1 → n ≤ c → at ≡ get_or old.code.numbers s 0 → x ≡ form_stand at left → Ordered (part_of s c old.code.numbers) left old old x
one_left n s c at left old x e z l g d =
    let ns = old.code.numbers in
    let first = part_first ns s c (suc s) (c - 1) (omega (arith, z, l)) refl (part_within ns s c (omega (arith, e, z))) in
    let one : 1 ≡ length (get_or ns s 0 ∷ part_of (suc s) (c - 1) ns) = sym z ∙ e ∙ ap (λ xs. length xs) first in
    subst (λ xs. Ordered xs left old old x) (sym first)
    (one_by (get_or ns s 0) (part_of (suc s) (c - 1) ns) left old old x one (subst (λ k. LedTo (λ a. Become (term_at old.code k) (party_of a old)) left old old x) g (became_in at left old x d)))

pub more_left : {E : Type 0} (r : Result Stand E) (n s c s' c' at left : ℕ) (old new : View) → n ≡ length (part_of s c old.code.numbers) → 2 ≤ n → n ≤ c → s' ≡ s + 1 → c' ≡ c - 1 → at ≡ get_or old.code.numbers s 0
    → IfOk r (WaitsIn (frame.Seq s' c') at left old new) → IfOk r (Ordered (part_of s c old.code.numbers) left old new)
more_left r n s c s' c' at left old new e z l p q g h =
    let ns = old.code.numbers in
    let first = part_first ns s c s' c' (omega (arith, z, l, q)) (omega (arith, p)) (part_within ns s c (omega (arith, e, z))) in
    let two : 2 ≤ length (get_or ns s 0 ∷ part_of s' c' ns) = subst (λ k. 2 ≤ k) (e ∙ ap (λ xs. length xs) first) z in
    subst (λ xs. IfOk r (Ordered xs left old new)) (sym first) (more_by r (get_or ns s 0) (part_of s' c' ns) left old new two (subst (λ k. IfOk r (WaitsIn (frame.Seq s' c') k left old new)) g h))

-- LOOPS

pub test_waits : {E : Type 0} (r : Result Stand E) (t left : ℕ) (row : TurnRow) (old new : View) → row ≡ get_or old.code.turns t no_turn_row → IfOk r (WaitsIn (frame.Tested t) row.test left old new)
    → IfOk r (LedTo (λ a. Evaluate (turns_at old.code t).test (party_of a old) (Tested (turns_at old.code t))) left old new)
test_waits r t left row old new e h =
    let there = subst (λ (x : TurnRow). IfOk r (WaitsIn (frame.Tested t) x.test left old new)) e h in there

pub turn_waits : {E : Type 0} (r : Result Stand E) (t left : ℕ) (row : TurnRow) (old new : View) → row ≡ get_or old.code.turns t no_turn_row → IfOk r (WaitsIn (frame.Turned t) row.body left old new)
    → IfOk r (LedTo (λ a. Evaluate (turns_at old.code t).body (party_of a old) (Turned (turns_at old.code t))) left old new)
turn_waits r t left row old new e h =
    let there = subst (λ (x : TurnRow). IfOk r (WaitsIn (frame.Turned t) x.body left old new)) e h in there

-- what follows a turn, by what a loop does after it
abbrev Follows : Option ℕ → (t left : ℕ) → View → View → Stand → Type 0
Follows o t left old new s = LedTo (λ a. next_turn (turns_at old.code t) (option_map (term_at old.code) o) (party_of a old)) left old new s

pub test_follows : {E : Type 0} (r : Result Stand E) (t left : ℕ) (row : TurnRow) (old new : View) → row ≡ get_or old.code.turns t no_turn_row → row.update ≡ None
    → IfOk r (LedTo (λ a. Evaluate (turns_at old.code t).test (party_of a old) (Tested (turns_at old.code t))) left old new)
    → IfOk r (LedTo (λ a. next_turn (turns_at old.code t) (turns_at old.code t).update (party_of a old)) left old new)
test_follows r t left row old new e n h = subst (λ o. IfOk r (Follows o t left old new)) (sym n ∙ ap (λ (x : TurnRow). x.update) e) h

pub update_follows : {E : Type 0} (r : Result Stand E) (t at left : ℕ) (row : TurnRow) (old new : View) → row ≡ get_or old.code.turns t no_turn_row → row.update ≡ Some at → IfOk r (WaitsIn (frame.Updated t) at left old new)
    → IfOk r (LedTo (λ a. next_turn (turns_at old.code t) (turns_at old.code t).update (party_of a old)) left old new)
update_follows r t at left row old new e n h = subst (λ o. IfOk r (Follows o t left old new)) (sym n ∙ ap (λ (x : TurnRow). x.update) e) h

-- a turn or the end of a loop, by the truth of its test
abbrev Turns : Bool → (t left : ℕ) → View → View → Stand → Type 0
Turns b t left old new s = LedTo (λ a. if b then Evaluate (turns_at old.code t).body (party_of a old) (Turned (turns_at old.code t)) else give value.Undefined (party_of a old)) left old new s

turns_by : (v : Plain) (t left : ℕ) (old new : View) (s : Stand) → Turns (to_boolean (value_of v)) t left old new s → LedTo (deed_with (frame.Tested t) (value_of v) old) left old new s
turns_by v t left old new s h = record { leads = λ a. h.leads a; keeps = h.keeps; stays = h.stays }

pub turn_taken : {E : Type 0} (r : Result Stand E) (v : Plain) (b : Bool) (t left : ℕ) (old new : View) → b ≡ to_boolean (value_of v) → b ≡ true
    → IfOk r (LedTo (λ a. Evaluate (turns_at old.code t).body (party_of a old) (Turned (turns_at old.code t))) left old new) → IfOk r (LedTo (deed_with (frame.Tested t) (value_of v) old) left old new)
turn_taken (Ok s) v b t left old new e y h = turns_by v t left old new s (subst (λ x. Turns x t left old new s) (sym y ∙ e) h)
turn_taken (Err x) v b t left old new e y h = tt

pub loop_ends : (v : Plain) (b : Bool) (t left : ℕ) (old : View) (s : Stand) → b ≡ to_boolean (value_of v) → b ≡ false → s ≡ value_stand plain.Undefined left → LedTo (deed_with (frame.Tested t) (value_of v) old) left old old s
loop_ends v b t left old s e n d = turns_by v t left old old s (subst (λ x. Turns x t left old old s) (sym n ∙ e) (given_in plain.Undefined left old s d))

-- SCOPES

pub scope_left : (back left : ℕ) (v : Plain) (old new : View) (s : Stand) → new ≡ record old { bodies = stood_in back old.bodies } → s ≡ value_stand v left → LedTo (deed_with (frame.ScopeExit back) (value_of v) old) left old new s
scope_left back left v old new s e d =
    subst (λ (x : Stand). LedTo (deed_with (frame.ScopeExit back) (value_of v) old) left old new x) (sym d)
    (subst (λ w. LedTo (deed_with (frame.ScopeExit back) (value_of v) old) left old w (value_stand v left)) (sym e) (record { leads = λ a. refl; keeps = (refl, (refl, (refl, (refl, refl)))); stays = refl }))

-- SLOTS

-- what is written in a slot, by what stands there
abbrev Writes : Option (Value Ref MadeSymbol) → (h i : ℕ) → Plain → (left : ℕ) → View → View → Stand → Type 0
Writes o h i v left old new s = LedTo (λ a. write_slot (naming_of old.me) false (outwards old.scopes h (scope_of old.bodies)) i (value_of v) o (party_of a old)) left old new s

writes : (o : Option (Value Ref MadeSymbol)) (h i : ℕ) (v : Plain) (left : ℕ) (old : View) → is_some o ≡ true → Writes o h i v left old (record old { scopes = with_local old h i (value_of v) }) (value_stand v left)
writes None h i v left old e = cc
writes (Some x) h i v left old e = record { leads = λ a. refl; keeps = (refl, (refl, (refl, (refl, refl)))); stays = refl }

pub slot_set : (h i left : ℕ) (v : Plain) (old new : View) (s : Stand) → new ≡ record old { scopes = with_local old h i (value_of v) } → s ≡ value_stand v left → is_some (slot_of old.scopes (outwards old.scopes h (scope_of old.bodies)) i) ≡ true
    → LedTo (deed_with (frame.SetLocal h i false) (value_of v) old) left old new s
slot_set h i left v old new s e d there =
    let w = writes (slot_of old.scopes (outwards old.scopes h (scope_of old.bodies)) i) h i v left old there in
    let done : LedTo (deed_with (frame.SetLocal h i false) (value_of v) old) left old (record old { scopes = with_local old h i (value_of v) }) (value_stand v left) = record { leads = λ a. w.leads a; keeps = w.keeps; stays = w.stays } in
    subst (λ (x : Stand). LedTo (deed_with (frame.SetLocal h i false) (value_of v) old) left old new x) (sym d)
    (subst (λ u. LedTo (deed_with (frame.SetLocal h i false) (value_of v) old) left old u (value_stand v left)) (sym e) done)

pub slot_begun : (h i left : ℕ) (v : Plain) (old new : View) (s : Stand) → new ≡ record old { scopes = with_local old h i (value_of v) } → s ≡ value_stand plain.Undefined left → LedTo (deed_with (frame.Init h i) (value_of v) old) left old new s
slot_begun h i left v old new s e d =
    subst (λ (x : Stand). LedTo (deed_with (frame.Init h i) (value_of v) old) left old new x) (sym d)
    (subst (λ w. LedTo (deed_with (frame.Init h i) (value_of v) old) left old w (value_stand plain.Undefined left)) (sym e) (record { leads = λ a. refl; keeps = (refl, (refl, (refl, (refl, refl)))); stays = refl }))

-- BRANCHES

abbrev Chosen : Bool → (c : ℕ) → Option ℕ → (left : ℕ) → View → Stand → Type 0
Chosen b c o left old s = LedTo (λ a. if b then Become (term_at old.code c) (party_of a old) else otherwise (option_map (term_at old.code) o) (party_of a old)) left old old s

abbrev Branches : Plain → (c : ℕ) → Option ℕ → (left : ℕ) → View → Stand → Type 0
Branches v c o left old s = LedTo (λ a. branch (value_of v) (term_at old.code c) (option_map (term_at old.code) o) (party_of a old)) left old old s

chosen_by : (v : Plain) (b : Bool) (c : ℕ) (o : Option ℕ) (left : ℕ) (old : View) (s : Stand) → b ≡ to_boolean (value_of v) → Chosen b c o left old s → Branches v c o left old s
chosen_by v b c o left old s e h = subst (λ x. Chosen x c o left old s) e h

pub first_chosen : (v : Plain) (b : Bool) (c : ℕ) (o : Option ℕ) (left : ℕ) (old : View) (s : Stand) → b ≡ to_boolean (value_of v) → b ≡ true → s ≡ form_stand c left → Branches v c o left old s
first_chosen v b c o left old s e y d = chosen_by v b c o left old s e (subst (λ x. Chosen x c o left old s) (sym y) (became_in c left old s d))

pub second_chosen : (v : Plain) (b : Bool) (c at : ℕ) (o : Option ℕ) (left : ℕ) (old : View) (s : Stand) → b ≡ to_boolean (value_of v) → b ≡ false → o ≡ Some at → s ≡ form_stand at left → Branches v c o left old s
second_chosen v b c at o left old s e n i d =
    chosen_by v b c o left old s e (subst (λ x. Chosen x c o left old s) (sym n) (subst (λ x. Chosen false c x left old s) (sym i) (became_in at left old s d)))

pub none_chosen : (v : Plain) (b : Bool) (c : ℕ) (o : Option ℕ) (left : ℕ) (old : View) (s : Stand) → b ≡ to_boolean (value_of v) → b ≡ false → o ≡ None → s ≡ value_stand plain.Undefined left → Branches v c o left old s
none_chosen v b c o left old s e n i d =
    chosen_by v b c o left old s e (subst (λ x. Chosen x c o left old s) (sym n) (subst (λ x. Chosen false c x left old s) (sym i) (given_in plain.Undefined left old s d)))

-- BODIES AND CALLS

-- the body of a call is over that returns nothing
pub body_ends : (left : ℕ) (v : Plain) (old new : View) (s : Stand) → new ≡ without_body old → s ≡ value_stand plain.Undefined left → LedTo (deed_with frame.Called (value_of v) old) left old new s
body_ends left v old new s e d =
    subst (λ (x : Stand). LedTo (deed_with frame.Called (value_of v) old) left old new x) (sym d)
    (subst (λ w. LedTo (deed_with frame.Called (value_of v) old) left old w (value_stand plain.Undefined left)) (sym e) (record { leads = λ a. refl; keeps = (refl, (refl, (refl, (refl, refl)))); stays = refl }))

-- a call has its value
pub given_ends : (left : ℕ) (v : Plain) (old : View) (s : Stand) → s ≡ value_stand v left → LedTo (deed_with frame.Given (value_of v) old) left old old s
given_ends left v old s d = subst (λ (x : Stand). LedTo (deed_with frame.Given (value_of v) old) left old old x) (sym d) (record { leads = λ a. refl; keeps = (refl, (refl, (refl, (refl, refl)))); stays = refl })

-- OPERATORS

-- the right operand is next, and the left one waits
pub operand_waits : {E : Type 0} (r : Result Stand E) (o : BinaryOperator) (at left : ℕ) (v : Plain) (old mid new : View) → mid ≡ record old { values = value_of v ∷ old.values } → IfOk r (WaitsIn (frame.BinaryRight o) at left mid new)
    → IfOk r (LedTo (deed_with (frame.BinaryLeft o at) (value_of v) old) left old new)
operand_waits r o at left v old mid new e h =
    let there = subst (λ (w : View). IfOk r (WaitsIn (frame.BinaryRight o) at left w new)) e h in there

-- both are numbers, and the operator gives one
pub operated : (o : BinaryOperator) (i j n : ℤ) (left : ℕ) (low new : View) (s : Stand) → top low.values ≡ value.Int i → number_or_end (numeric o i j) ≡ Is n → new ≡ record low { values = drop 1 low.values } → s ≡ value_stand (plain.Int n) left
    → LedTo (deed_with (frame.BinaryRight o) (value.Int j) low) left (under (frame.BinaryRight o) low) new s
operated o i j n left low new s t c e d =
    let f = frame.BinaryRight o in
    let rest = under f low in
    subst (λ (x : Stand). LedTo (deed_with f (value.Int j) low) left rest new x) (sym d)
    (subst (λ u. LedTo (deed_with f (value.Int j) low) left rest u (value_stand (plain.Int n) left)) (sym e)
    (record {
      leads = λ a.
          (let b = fitting rest a in
          let gives = ap (λ v. binary_value (naming_of low.me) b.shared o v (value.Int j) (party_of b low)) t ∙ calculates (naming_of low.me) b.shared o i j n (party_of b low) c in
          ap (λ x. settles b rest rest.values (answered (naming_of low.me) b.env x)) (sym gives));
      keeps = (refl, (refl, (refl, (refl, refl))));
      stays = refl;
    }))
