-- What follows a turn of a loop.
use Rattle.std.proofs.Common.{◌≡◌, ℕ, zero, suc, ◌+◌, ◌<◌, ◌≤◌, ◌||◌, Bool, true, false, List, [], ◌∷◌, length, get_or, drop, map, Option, Some, None, refl, sym, ap, ◌∙◌, subst, arith, Result, Ok, Err, IfOk, if◌then◌else◌}
use Rattle.std.proofs.Math.ListN.{get_or-map}
use Rattle.std.proofs.Math.Seq.{drop-cons}
use Rattle.std.proofs.lemmas.List.{get_or-drop, get_or-take, length-map}
use Rattle.std.specs.Option.{option_map}
use Rattle.js_text.specs.Texts.{same_units}
use Rattle.js_text.specs.declared.value.Value.TheVariants as value
use Rattle.js_code.specs.Decoded.{no_turn_row, term_at, text_at}
use Rattle.js_code.specs.Tables.{Tables, part_of}
use Rattle.js_code.specs.declared.node.TurnRow.{TurnRow}
use Rattle.js_machine.specs.js_run.Acts.{Evaluate, Give, Tested, give, is_label, next_turn}
use Rattle.js_machine.specs.js_run.Completions.{Breaks, Continues}
use Rattle.js_machine.specs.Steps.{IsDelivered, LeadsTo, Waits}
use Rattle.js_machine.specs.Views.{View, below, is_completion, party_of, turns_at}
use Rattle.js_machine.specs.declared.frame.Frame.TheVariants as frame
use Rattle.js_machine.specs.declared.frame.Mode.{Mode}
use Rattle.js_machine.specs.declared.frame.Mode.TheVariants as mode

-- LABELS

abbrev pub labels_at : Tables → ℕ → ℕ → List (List ℕ)
labels_at c s k = map (text_at c) (part_of s k c.numbers)

-- the labels from one on
label_at : (c : Tables) (s k n i : ℕ) → n ≡ length (part_of s k c.numbers) → n ≤ k → i < n → drop i (labels_at c s k) ≡ text_at c (get_or c.numbers (s + i) 0) ∷ drop (suc i) (labels_at c s k)
label_at c s k n i e l w =
    let at : get_or (part_of s k c.numbers) i 0 ≡ get_or c.numbers (s + i) 0 = get_or-take k (drop s c.numbers) i 0 (omega (arith, l, w)) ∙ get_or-drop s c.numbers i 0 in
    drop-cons (labels_at c s k) i (text_at c 0) (omega (arith, e, w, length-map (part_of s k c.numbers) (text_at c)))
    ∙ ap (λ x. x ∷ drop (suc i) (labels_at c s k)) (get_or-map (text_at c) (part_of s k c.numbers) i 0 ∙ ap (text_at c) at)

label_by : (c : Tables) (t : List ℕ) (s k n i : ℕ) (b : Bool) → n ≡ length (part_of s k c.numbers) → n ≤ k → i < n → b ≡ same_units t (text_at c (get_or c.numbers (s + i) 0))
    → is_label t (drop i (labels_at c s k)) ≡ (b || is_label t (drop (suc i) (labels_at c s k)))
label_by c t s k n i b e l w d = ap (is_label t) (label_at c s k n i e l w) ∙ ap (λ x. x || is_label t (drop (suc i) (labels_at c s k))) (sym d)

pub label_found : (c : Tables) (t : List ℕ) (s k n i at : ℕ) (b : Bool) → is_label t (labels_at c s k) ≡ is_label t (drop i (labels_at c s k)) → n ≡ length (part_of s k c.numbers) → n ≤ k → i < n
    → at ≡ get_or c.numbers (s + i) 0 → b ≡ same_units t (text_at c at) → b ≡ true → true ≡ is_label t (labels_at c s k)
label_found c t s k n i at b h e l w g d y = sym (h ∙ label_by c t s k n i b e l w (d ∙ ap (λ x. same_units t (text_at c x)) g) ∙ ap (λ x. x || is_label t (drop (suc i) (labels_at c s k))) y)

pub label_missed : (c : Tables) (t : List ℕ) (s k n i j at : ℕ) (b : Bool) → is_label t (labels_at c s k) ≡ is_label t (drop i (labels_at c s k)) → n ≡ length (part_of s k c.numbers) → n ≤ k → i < n
    → at ≡ get_or c.numbers (s + i) 0 → b ≡ same_units t (text_at c at) → b ≡ false → j ≡ suc i → is_label t (labels_at c s k) ≡ is_label t (drop j (labels_at c s k))
label_missed c t s k n i j at b h e l w g d y q =
    h ∙ label_by c t s k n i b e l w (d ∙ ap (λ x. same_units t (text_at c x)) g) ∙ ap (λ x. x || is_label t (drop (suc i) (labels_at c s k))) y ∙ ap (λ x. is_label t (drop x (labels_at c s k))) (sym q)

all_dropped : (ls : List (List ℕ)) (n : ℕ) → length ls ≤ n → drop n ls ≡ []
all_dropped [] zero l = refl
all_dropped [] (suc n) l = refl
all_dropped (x ∷ ls) zero l = absurd (omega (arith, l))
all_dropped (x ∷ ls) (suc n) l = all_dropped ls n (omega (arith, l))

pub no_label : (c : Tables) (t : List ℕ) (s k n i : ℕ) → is_label t (labels_at c s k) ≡ is_label t (drop i (labels_at c s k)) → n ≡ length (part_of s k c.numbers) → n ≤ i → false ≡ is_label t (labels_at c s k)
no_label c t s k n i h e l = sym (h ∙ ap (is_label t) (all_dropped (labels_at c s k) i (omega (arith, e, l, length-map (part_of s k c.numbers) (text_at c)))))

-- THE NEXT TURN

abbrev Next : Option ℕ → ℕ → View → View → Mode → Type 0
Next o t old new m = LeadsTo (λ a. next_turn (turns_at old.code t) (option_map (term_at old.code) o) (party_of a old)) old new m

pub next_tests : {E : Type 0} (r : Result Mode E) (t : ℕ) (row : TurnRow) (old new : View) → row ≡ get_or old.code.turns t no_turn_row → row.update ≡ None
    → IfOk r (LeadsTo (λ a. Evaluate (turns_at old.code t).test (party_of a old) (Tested (turns_at old.code t))) old new) → IfOk r (LeadsTo (λ a. next_turn (turns_at old.code t) (turns_at old.code t).update (party_of a old)) old new)
next_tests r t row old new e n h = subst (λ o. IfOk r (Next o t old new)) (sym n ∙ ap (λ (x : TurnRow). x.update) e) h

pub next_updates : {E : Type 0} (r : Result Mode E) (t at : ℕ) (row : TurnRow) (old new : View) → row ≡ get_or old.code.turns t no_turn_row → row.update ≡ Some at
    → IfOk r (Waits (frame.Updated t) at old new) → IfOk r (LeadsTo (λ a. next_turn (turns_at old.code t) (turns_at old.code t).update (party_of a old)) old new)
next_updates r t at row old new e n h = subst (λ o. IfOk r (Next o t old new)) (sym n ∙ ap (λ (x : TurnRow). x.update) e) h

pub turn_ended : {E : Type 0} (r : Result Mode E) (t : ℕ) (old mid new : View) → mid ≡ record old { values = below old.values }
    → IfOk r (LeadsTo (λ a. next_turn (turns_at mid.code t) (turns_at mid.code t).update (party_of a mid)) mid new) → IfOk r (IsDelivered (frame.Turned t) mode.Value old new)
turn_ended (Ok m) t old mid new e h = let w = subst (λ x. LeadsTo (λ a. next_turn (turns_at x.code t) (turns_at x.code t).update (party_of a x)) x new m) e h in record { stands = λ a. w.leads a; keeps = w.keeps }
turn_ended (Err x) t old mid new e h = tt

-- JUMPS OUT OF A TURN

abbrev Rounds : Bool → ℕ → ℕ → View → View → Mode → Type 0
Rounds b t to old new m =
    LeadsTo (λ a. if b then next_turn (turns_at old.code t) (turns_at old.code t).update (party_of a old) else Give (Continues (text_at old.code to)) (party_of a old)) old new m

rounds : {E : Type 0} (r : Result Mode E) (t to : ℕ) (b : Bool) (old new : View) → b ≡ is_label (text_at old.code to) (turns_at old.code t).labels → IfOk r (Rounds b t to old new) → IfOk r (IsDelivered (frame.Turned t) (mode.Continue to) old new)
rounds (Ok m) t to b old new e h = let w = subst (λ x. Rounds x t to old new m) e h in record { stands = λ a. w.leads a; keeps = w.keeps }
rounds (Err x) t to b old new e h = tt

pub goes_round : {E : Type 0} (r : Result Mode E) (t to : ℕ) (b : Bool) (old new : View) → b ≡ is_label (text_at old.code to) (turns_at old.code t).labels → b ≡ true
    → IfOk r (LeadsTo (λ a. next_turn (turns_at old.code t) (turns_at old.code t).update (party_of a old)) old new) → IfOk r (IsDelivered (frame.Turned t) (mode.Continue to) old new)
goes_round r t to b old new e y h = rounds r t to b old new e (subst (λ x. IfOk r (Rounds x t to old new)) (sym y) h)

pub goes_further : (t to : ℕ) (b : Bool) (old : View) → b ≡ is_label (text_at old.code to) (turns_at old.code t).labels → b ≡ false → IsDelivered (frame.Turned t) (mode.Continue to) old old (mode.Continue to)
goes_further t to b old e n =
    let past : Rounds false t to old old (mode.Continue to) = record { leads = λ a. refl; keeps = (refl, (refl, (refl, (refl, refl)))) } in
    let w = subst (λ x. Rounds x t to old old (mode.Continue to)) (sym n ∙ e) past in
    record { stands = λ a. w.leads a; keeps = w.keeps }

abbrev Leaves : Bool → ℕ → View → View → Mode → Type 0
Leaves b to old new m = LeadsTo (λ a. if b then give value.Undefined (party_of a old) else Give (Breaks (text_at old.code to)) (party_of a old)) old new m

leaves : {E : Type 0} (r : Result Mode E) (t to : ℕ) (b : Bool) (old new : View) → b ≡ is_label (text_at old.code to) (turns_at old.code t).labels → IfOk r (Leaves b to old new) → IfOk r (IsDelivered (frame.Turned t) (mode.Break to) old new)
leaves (Ok m) t to b old new e h = let w = subst (λ x. Leaves x to old new m) e h in record { stands = λ a. w.leads a; keeps = w.keeps }
leaves (Err x) t to b old new e h = tt

pub loop_left : {E : Type 0} (r : Result Mode E) (t to : ℕ) (b : Bool) (old new : View) → b ≡ is_label (text_at old.code to) (turns_at old.code t).labels → b ≡ true
    → IfOk r (LeadsTo (λ a. give value.Undefined (party_of a old)) old new) → IfOk r (IsDelivered (frame.Turned t) (mode.Break to) old new)
loop_left r t to b old new e y h = leaves r t to b old new e (subst (λ x. IfOk r (Leaves x to old new)) (sym y) h)

pub loop_passed : (t to : ℕ) (b : Bool) (old : View) → b ≡ is_label (text_at old.code to) (turns_at old.code t).labels → b ≡ false → IsDelivered (frame.Turned t) (mode.Break to) old old (mode.Break to)
loop_passed t to b old e n =
    let past : Leaves false to old old (mode.Break to) = record { leads = λ a. refl; keeps = (refl, (refl, (refl, (refl, refl)))) } in
    let w = subst (λ x. Leaves x to old old (mode.Break to)) (sym n ∙ e) past in
    record { stands = λ a. w.leads a; keeps = w.keeps }

pub passes_turn : (t : ℕ) (m : Mode) (old : View) → is_completion m ≡ true → (m ≡ mode.Value → ⊥) → ((to : ℕ) → m ≡ mode.Continue to → ⊥) → ((to : ℕ) → m ≡ mode.Break to → ⊥) → IsDelivered (frame.Turned t) m old old m
passes_turn t (mode.Eval at) old c v n b = cc
passes_turn t mode.Ask old c v n b = cc
passes_turn t mode.Answer old c v n b = cc
passes_turn t mode.Value old c v n b = absurd (v refl)
passes_turn t mode.Throw old c v n b = record { stands = λ a. refl; keeps = (refl, (refl, (refl, (refl, refl)))) }
passes_turn t mode.Return old c v n b = record { stands = λ a. refl; keeps = (refl, (refl, (refl, (refl, refl)))) }
passes_turn t (mode.Break to) old c v n b = absurd (b to refl)
passes_turn t (mode.Continue to) old c v n b = absurd (n to refl)
passes_turn t (mode.End h) old c v n b = cc
passes_turn t (mode.Pay i) old c v n b = cc
passes_turn t (mode.Serve i) old c v n b = cc
passes_turn t mode.Import old c v n b = cc
passes_turn t mode.Outside old c v n b = cc
