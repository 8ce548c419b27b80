-- Lists, loops and choices, by the places where a run stands in them.
use Rattle.std.proofs.Common.{◌≡◌, ℕ, suc, ◌+◌, ◌-◌, ◌≤◌, ◌<◌, Bool, true, false, not, List, [], ◌∷◌, get_or, length, map, replicate, drop, Option, Some, None, refl, sym, ap, ◌∙◌, subst, arith, if◌then◌else◌}
use Rattle.std.specs.Option.{option_map}
use Rattle.js_text.specs.Naming.{naming_of}
use Rattle.js_text.specs.declared.value.Value.TheVariants as value
use Rattle.js_code.specs.Decoded.{layer_of, no_turn_row, term_at}
use Rattle.js_code.specs.Tables.{part_of}
use Rattle.js_code.specs.declared.node.Node.{Node}
use Rattle.js_code.specs.declared.node.Node.TheVariants as node
use Rattle.js_code.specs.declared.node.TurnRow.{TurnRow}
use Rattle.js_term.specs.declared.term.Term.{out-Term}
use Rattle.js_direct.specs.Direct.{GivesTruth, value_of}
use Rattle.js_direct.specs.declared.plain.Plain.{Plain}
use Rattle.js_direct.specs.declared.plain.Plain.TheVariants as plain
use Rattle.js_direct.specs.declared.truths.Truth.{Truth}
use Rattle.js_machine.specs.Bodies.{scope_of, stood_in}
use Rattle.js_machine.specs.Steps.{deed_of_row, deed_with, over}
use Rattle.js_machine.specs.Views.{View, newest, nexts_of, party_of, turns_at, with_copy, with_scope}
use Rattle.js_machine.specs.declared.frame.Frame.TheVariants as frame
use Rattle.js_machine.specs.js_run.Acts.{Become, Evaluate, Tested, Turned, give, next_turn, with_value}
use Rattle.js_desc.specs.declared.reply.Reply.TheVariants as reply
use Rattle.js_machine.specs.js_run.Completions.{Replied}
use Rattle.js_machine.specs.js_run.Going.{go_on}
use Rattle.js_machine.specs.js_run.Control.{in_order, otherwise}
use Rattle.js_machine.specs.js_run.Rows.{if_test}
use Rattle.js_machine.specs.js_run.Runs.{answered, settle}
use Rattle.js_machine.proofs.Listed.{part_first, part_within}
use Rattle.js_in_place.specs.InPlace.{sight_of}
use Rattle.js_in_place.specs.Places.{ComesTo, IsDone, IsPart, IsWent, Place, after_turn, at_copy, at_deed, at_form, at_item, at_list, at_scope, at_test, at_turn, at_update, at_value}
use Rattle.js_in_place.specs.Turns.{at_begun}
use Rattle.js_in_place.specs.declared.seat.How.TheVariants as how
use Rattle.js_in_place.specs.declared.seat.Seat.{Seat}
use Rattle.js_in_place.specs.declared.seat.Went.{Went}
use Rattle.js_in_place.proofs.Placed.{all_kept, done_over, gives_under, next_part, popped, pushed, row_done, row_under, same_place, still, then_part, then_to, whole_ends}

-- LISTS

abbrev listed : List ℕ → View → Place
listed ns w = at_deed (λ a. in_order (map (term_at w.code) ns) (party_of a w)) w

none_by : (ns : List ℕ) (left : ℕ) (w : View) → 0 ≡ length ns → ComesTo left w w (listed ns w) (at_value plain.Undefined w) left
none_by [] left w e = same_place left w w (listed [] w) (at_value plain.Undefined w) (all_kept w) (λ a. refl)
none_by (n ∷ ns) left w e = cc

one_by : (n : ℕ) (ns : List ℕ) (left : ℕ) (w : View) → 1 ≡ length (n ∷ ns) → ComesTo left w w (listed (n ∷ ns) w) (at_form n w) left
one_by n [] left w e = same_place left w w (listed (n ∷ []) w) (at_form n w) (all_kept w) (λ a. refl)
one_by n (k ∷ ns) left w e = cc

abbrev first_of : ℕ → List ℕ → View → Place
first_of n ns w = at_deed (λ a. Evaluate (term_at w.code n) (party_of a w) (with_value (λ v p. in_order (map (term_at w.code) ns) p))) w

more_by : (n : ℕ) (ns : List ℕ) (left : ℕ) (w : View) → 2 ≤ length (n ∷ ns) → ComesTo left w w (listed (n ∷ ns) w) (first_of n ns w) left
more_by n [] left w l = absurd (omega (arith, l))
more_by n (k ∷ ns) left w l = still left w (first_of n (k ∷ ns) w)

-- the last form takes the place of the list
pub list_ends : (n s c left : ℕ) (w : View) → n ≡ length (part_of s c w.code.numbers) → n ≡ 1 → n ≤ c → ComesTo left w w (at_list s c w) (at_form (get_or w.code.numbers s 0) w) left
list_ends n s c left w e z l =
    let ns = w.code.numbers in
    let first = part_first ns s c (suc s) (c - 1) (omega (arith, z, l)) refl (part_within ns s c (omega (arith, e, z))) in
    let one : 1 ≡ length (get_or ns s 0 ∷ part_of (suc s) (c - 1) ns) = sym z ∙ e ∙ ap (λ xs. length xs) first in
    subst (λ xs. ComesTo left w w (listed xs w) (at_form (get_or ns s 0) w) left) (sym first) (one_by (get_or ns s 0) (part_of (suc s) (c - 1) ns) left w one)

-- the first of several begins
pub list_begins : (n s c s' c' left : ℕ) (w : View) → n ≡ length (part_of s c w.code.numbers) → 2 ≤ n → n ≤ c → s' ≡ s + 1 → c' ≡ c - 1 → ComesTo left w w (at_list s c w) (at_item (get_or w.code.numbers s 0) s' c' w) left
list_begins n s c s' c' left w e z l p q =
    let ns = w.code.numbers in
    let first = part_first ns s c s' c' (omega (arith, z, l, q)) (omega (arith, p)) (part_within ns s c (omega (arith, e, z))) in
    let two : 2 ≤ length (get_or ns s 0 ∷ part_of s' c' ns) = subst (λ k. 2 ≤ k) (e ∙ ap (λ xs. length xs) first) z in
    subst (λ xs. ComesTo left w w (listed xs w) (at_item (get_or ns s 0) s' c' w) left) (sym first) (more_by (get_or ns s 0) (part_of s' c' ns) left w two)

-- so many are left then
pub list_shorter : (ns : List ℕ) (n s c s' c' : ℕ) → n ≡ length (part_of s c ns) → 1 ≤ n → n ≤ c → s' ≡ s + 1 → c' ≡ c - 1 → n - 1 ≡ length (part_of s' c' ns)
list_shorter ns n s c s' c' e z l p q =
    let first = part_first ns s c s' c' (omega (arith, z, l, q)) (omega (arith, p)) (part_within ns s c (omega (arith, e, z))) in
    let same : n ≡ suc (length (part_of s' c' ns)) = e ∙ ap (λ xs. length xs) first in
    omega (arith, same)

-- the list with a form that went so far
module _ (os oc i n s c at whole left : ℕ) (first old new : View) (seat : Seat) (w : Went) (so_far : ComesTo whole first old (at_list os oc first) (at_list (os + i) (oc - i) old) left)
    (many : n - i ≡ length (part_of (os + i) (oc - i) old.code.numbers)) (fewer : n ≤ oc) where
  module _ (more : i < n - 1) (e : s ≡ os + i + 1) (d : c ≡ oc - i - 1) (is : at ≡ get_or old.code.numbers (os + i) 0) (goes : IsPart (at_item at s c old) (at_list s c new) left old new seat w) where
    begins : ComesTo left old old (at_list (os + i) (oc - i) old) (at_item at s c old) left
    begins = subst (λ k. ComesTo left old old (at_list (os + i) (oc - i) old) (at_item k s c old) left) (sym is) (list_begins (n - i) (os + i) (oc - i) s c left old many (omega (arith, more)) (omega (arith, more, fewer)) e (omega (arith, d)))

    goes_so : IsPart (at_list os oc first) (at_list s c new) whole first new seat w
    goes_so =
        then_part whole left first old new (at_list os oc first) (at_list (os + i) (oc - i) old) (at_list s c new) seat w so_far
        (then_part left left old old new (at_list (os + i) (oc - i) old) (at_item at s c old) (at_list s c new) seat w begins goes)

    pub list_goes_on : w.how ≡ how.Next → (ComesTo whole first new (at_list os oc first) (at_list (os + (i + 1)) (oc - (i + 1)) new) w.left) × (n - (i + 1) ≡ length (part_of (os + (i + 1)) (oc - (i + 1)) new.code.numbers))
    list_goes_on next =
        let there = next_part left old new (at_item at s c old) (at_list s c new) seat w next goes in
        let start : s ≡ os + (i + 1) = omega (arith, e) in
        let count : c ≡ oc - (i + 1) = omega (arith, d) in
        let less : n - i - 1 ≡ length (part_of s c old.code.numbers) = list_shorter old.code.numbers (n - i) (os + i) (oc - i) s c many (omega (arith, more)) (omega (arith, more, fewer)) e (omega (arith, d)) in
        let left_over : n - (i + 1) ≡ n - i - 1 = omega arith in (
          subst (λ x. ComesTo whole first new (at_list os oc first) (at_list x (oc - (i + 1)) new) w.left) start (subst (λ x. ComesTo whole first new (at_list os oc first) (at_list s x new) w.left) count (next_part whole first new (at_list os oc first) (at_list s c new) seat w next goes_so)),
          left_over ∙ less ∙ (λ j. length (part_of (start j) (count j) (sym there.comes.keeps.1.0 j).numbers)),
        )

    pub list_stops : (w.how ≡ how.Next → ⊥) → IsWent (at_list os oc first) whole first new seat w
    list_stops ends = whole_ends whole first new (at_list os oc first) (at_list s c new) seat w ends goes_so

  pub list_last : i ≡ n - 1 → 0 < n → at ≡ get_or old.code.numbers (os + i) 0 → ComesTo whole first old (at_list os oc first) (at_form at old) left
  list_last last some is =
      then_to whole left left first old old (at_list os oc first) (at_list (os + i) (oc - i) old) (at_form at old) so_far
      (subst (λ k. ComesTo left old old (at_list (os + i) (oc - i) old) (at_form k old) left) (sym is) (list_ends (n - i) (os + i) (oc - i) left old many (omega (arith, last, some)) (omega (arith, last, some, fewer))))

-- a form of a list begins over its frame, and comes back to it
item_waits : (at s c left : ℕ) (w : View) → ComesTo left w (record w { frames = frame.Seq s c ∷ w.frames }) (at_item at s c w) (at_form at (record w { frames = frame.Seq s c ∷ w.frames })) left
item_waits at s c left w = pushed (frame.Seq s c) at left w

pub item_begins : (at s c left : ℕ) (w new : View) → new ≡ record w { frames = frame.Seq s c ∷ w.frames } → ComesTo left w new (at_item at s c w) (at_form at new) left
item_begins at s c left w new e = subst (λ x. ComesTo left w x (at_item at s c w) (at_form at x) left) (sym e) (item_waits at s c left w)

pub list_follows : (s c left : ℕ) (v : Plain) (old low : View) → newest old.frames ≡ Some (frame.Seq s c) → low ≡ record old { frames = drop 1 old.frames } → ComesTo left old low (at_value v old) (at_list s c low) left
list_follows s c left v old low e d = popped (frame.Seq s c) v left old low e d

-- SCOPES

scope_entered : (n at left : ℕ) (w : View) → (let inner = with_scope (replicate n None) w in let new = record inner { frames = frame.ScopeExit (scope_of w.bodies) ∷ inner.frames } in ComesTo left w new (at_scope n at w) (at_form at new) left)
scope_entered n at left w =
    let inner = with_scope (replicate n None) w in
    let new = record inner { frames = frame.ScopeExit (scope_of w.bodies) ∷ inner.frames } in
    same_place left w new (at_scope n at w) (at_form at new) (all_kept w) (λ a. refl)

pub scope_begins : (n at back left : ℕ) (w inner new : View) → back ≡ scope_of w.bodies → inner ≡ with_scope (replicate n None) w → new ≡ record inner { frames = frame.ScopeExit back ∷ inner.frames } → ComesTo left w new (at_scope n at w) (at_form at new) left
scope_begins n at back left w inner new b i e =
    let same : new ≡ (let x = with_scope (replicate n None) w in record x { frames = frame.ScopeExit (scope_of w.bodies) ∷ x.frames }) = e ∙ (λ j. record (i j) { frames = frame.ScopeExit (b j) ∷ (i j).frames }) in
    subst (λ x. ComesTo left w x (at_scope n at w) (at_form at x) left) (sym same) (scope_entered n at left w)

-- a form that is done at once in a new scope
abbrev exit : ℕ → Plain → View → View → Place
exit back v w new = at_deed (λ a. go_on (naming_of w.me) a.shared (over (frame.ScopeExit back) w a) (Replied (reply.Value (value_of v))) (party_of a new)) new

pub scope_done : (n at back left k rest : ℕ) (v : Plain) (w inner done new : View) → back ≡ scope_of w.bodies → inner ≡ with_scope (replicate n None) w → IsDone at inner done v k → k ≤ left → rest ≡ left - k → new ≡ record done { bodies = stood_in back done.bodies }
    → ComesTo left w new (at_scope n at w) (at_value v new) rest
scope_done n at back left k rest v w inner done new b i h l d f =
    let begun : ComesTo left w inner (at_scope n at w) (at_deed (λ a. Evaluate (term_at inner.code at) (party_of a inner) (over (frame.ScopeExit back) inner a)) inner) left =
    subst (λ k. ComesTo left w inner (at_scope n at w) (at_deed (λ a. Evaluate (term_at inner.code at) (party_of a inner) (over (frame.ScopeExit k) inner a)) inner) left) (sym b)
    (subst (λ x. ComesTo left w x (at_scope n at w) (at_deed (λ a. Evaluate (term_at x.code at) (party_of a x) (over (frame.ScopeExit (scope_of w.bodies)) x a)) x) left) (sym i)
    (let x = with_scope (replicate n None) w in same_place left w x (at_scope n at w) (at_deed (λ a. Evaluate (term_at x.code at) (party_of a x) (over (frame.ScopeExit (scope_of w.bodies)) x a)) x) (all_kept w) (λ a. refl))) in
    let over_it = done_over (frame.ScopeExit back) at left k rest v inner done h l d in
    let left_it : ComesTo rest done new (exit back v inner done) (at_value v new) rest =
    subst (λ x. ComesTo rest done x (exit back v inner done) (at_value v x) rest) (sym f)
    (let x = record done { bodies = stood_in back done.bodies } in same_place rest done x (exit back v inner done) (at_value v x) (all_kept done) (λ a. refl)) in
    then_to left left rest w inner new (at_scope n at w) (at_deed (λ a. Evaluate (term_at inner.code at) (party_of a inner) (over (frame.ScopeExit back) inner a)) inner) (at_value v new) begun
    (then_to left rest rest inner done new (at_deed (λ a. Evaluate (term_at inner.code at) (party_of a inner) (over (frame.ScopeExit back) inner a)) inner) (exit back v inner done) (at_value v new) over_it left_it)

pub scope_left : (back left : ℕ) (v : Plain) (old low new : View) → newest old.frames ≡ Some (frame.ScopeExit back) → low ≡ record old { frames = drop 1 old.frames } → new ≡ record low { bodies = stood_in back low.bodies } → ComesTo left old new (at_value v old) (at_value v new) left
scope_left back left v old low new e d f =
    then_to left left left old low new (at_value v old) (at_deed (deed_with (frame.ScopeExit back) (value_of v) low) low) (at_value v new) (popped (frame.ScopeExit back) v left old low e d)
    (subst (λ x. ComesTo left low x (at_deed (deed_with (frame.ScopeExit back) (value_of v) low) low) (at_value v x) left) (sym f)
    (same_place left low (record low { bodies = stood_in back low.bodies }) (at_deed (deed_with (frame.ScopeExit back) (value_of v) low) low) (at_value v (record low { bodies = stood_in back low.bodies })) (all_kept low) (λ a. refl)))

pub copy_entered : (left : ℕ) (old new : View) → new ≡ with_copy old → ComesTo left old new (at_copy old) (at_value plain.Undefined new) left
copy_entered left old new e = subst (λ x. ComesTo left old x (at_copy old) (at_value plain.Undefined x) left) (sym e) (same_place left old (with_copy old) (at_copy old) (at_value plain.Undefined (with_copy old)) (all_kept old) (λ a. refl))

-- a copy takes the place of the innermost scope, and a list follows
pub copy_in_list : (at s c left rest : ℕ) (old new : View) → out-Term (term_at old.code at) ≡ layer_of old.code (term_at old.code) node.Fresh → 0 < left → rest ≡ left - 1 → new ≡ with_copy old → ComesTo left old new (at_item at s c old) (at_list s c new) rest
copy_in_list at s c left rest old new e l d f =
    then_to left rest rest old old new (at_item at s c old) (λ b. settle (naming_of old.me) b.shared b.env (over (frame.Seq s c) old b ∷ nexts_of (naming_of old.me) b.shared old.code old.frames old.values old.waits) (answered (naming_of old.me) b.env (deed_of_row node.Fresh old b))) (at_list s c new)
    (row_under at left rest node.Fresh old (over (frame.Seq s c) old) e l d)
    (subst (λ x. ComesTo rest old x (λ b. settle (naming_of old.me) b.shared b.env (over (frame.Seq s c) old b ∷ nexts_of (naming_of old.me) b.shared old.code old.frames old.values old.waits) (answered (naming_of old.me) b.env (deed_of_row node.Fresh old b))) (at_list s c x) rest) (sym f)
    (same_place rest old (with_copy old) (λ b. settle (naming_of old.me) b.shared b.env (over (frame.Seq s c) old b ∷ nexts_of (naming_of old.me) b.shared old.code old.frames old.values old.waits) (answered (naming_of old.me) b.env (deed_of_row node.Fresh old b))) (at_list s c (with_copy old)) (all_kept old) (λ a. refl)))

-- LOOPS

-- a turn begins over its frame, and comes back to it
turn_waits : (t left : ℕ) (row : TurnRow) (w : View) → row ≡ get_or w.code.turns t no_turn_row → ComesTo left w (record w { frames = frame.Turned t ∷ w.frames }) (at_turn t w) (at_form row.body (record w { frames = frame.Turned t ∷ w.frames })) left
turn_waits t left row w e =
    let new = record w { frames = frame.Turned t ∷ w.frames } in
    subst (λ (x : TurnRow). ComesTo left w new (at_turn t w) (at_form x.body new) left) (sym e) (pushed (frame.Turned t) (get_or w.code.turns t no_turn_row).body left w)

pub test_waits : (t left : ℕ) (row : TurnRow) (w : View) → row ≡ get_or w.code.turns t no_turn_row → ComesTo left w (record w { frames = frame.Tested t ∷ w.frames }) (at_test t w) (at_form row.test (record w { frames = frame.Tested t ∷ w.frames })) left
test_waits t left row w e =
    let new = record w { frames = frame.Tested t ∷ w.frames } in
    subst (λ (x : TurnRow). ComesTo left w new (at_test t w) (at_form x.test new) left) (sym e) (pushed (frame.Tested t) (get_or w.code.turns t no_turn_row).test left w)

pub turn_over : (t left : ℕ) (v : Plain) (old low : View) → newest old.frames ≡ Some (frame.Turned t) → low ≡ record old { frames = drop 1 old.frames } → ComesTo left old low (at_value v old) (after_turn t low) left
turn_over t left v old low e d = popped (frame.Turned t) v left old low e d

pub update_over : (t left : ℕ) (v : Plain) (old low : View) → newest old.frames ≡ Some (frame.Updated t) → low ≡ record old { frames = drop 1 old.frames } → ComesTo left old low (at_value v old) (at_test t low) left
update_over t left v old low e d = popped (frame.Updated t) v left old low e d

update_waits : (t at left : ℕ) (w : View) → ComesTo left w (record w { frames = frame.Updated t ∷ w.frames }) (at_update t at w) (at_form at (record w { frames = frame.Updated t ∷ w.frames })) left
update_waits t at left w = pushed (frame.Updated t) at left w

pub update_begins : (t at left : ℕ) (w new : View) → new ≡ record w { frames = frame.Updated t ∷ w.frames } → ComesTo left w new (at_update t at w) (at_form at new) left
update_begins t at left w new e = subst (λ x. ComesTo left w x (at_update t at w) (at_form at x) left) (sym e) (update_waits t at left w)

abbrev after_by : Option ℕ → (turns : ℕ) → View → Place
after_by o t w = at_deed (λ a. next_turn (turns_at w.code t) (option_map (term_at w.code) o) (party_of a w)) w

-- what a loop does after a turn, by its row
pub updates : (t at left : ℕ) (row : TurnRow) (w : View) → row ≡ get_or w.code.turns t no_turn_row → row.update ≡ Some at → ComesTo left w w (after_turn t w) (at_update t at w) left
updates t at left row w e n = subst (λ o. ComesTo left w w (after_by o t w) (at_update t at w) left) (sym n ∙ ap (λ (x : TurnRow). x.update) e) (still left w (at_update t at w))

pub updates_nothing : (t left : ℕ) (row : TurnRow) (w : View) → row ≡ get_or w.code.turns t no_turn_row → row.update ≡ None → ComesTo left w w (after_turn t w) (at_test t w) left
updates_nothing t left row w e n = subst (λ o. ComesTo left w w (after_by o t w) (at_test t w) left) (sym n ∙ ap (λ (x : TurnRow). x.update) e) (still left w (at_test t w))

-- a test that gives its truth value at once
abbrev tested_by : Bool → (turns : ℕ) → View → Place
tested_by b t w = at_deed (λ a. if b then Evaluate (turns_at w.code t).body (party_of a w) (Turned (turns_at w.code t)) else give value.Undefined (party_of a w)) w

tests : (t at left rest : ℕ) (row : TurnRow) (x : Truth) (w : View) → row ≡ get_or w.code.turns t no_turn_row → GivesTruth (sight_of w) row.test x → x.steps ≤ left → rest ≡ left - x.steps → ComesTo left w w (at_test t w) (tested_by x.truth t w) rest
tests t at left rest row x w e h l d =
    let g = subst (λ (y : TurnRow). GivesTruth (sight_of w) y.test x) e h in
    subst (λ b. ComesTo left w w (at_test t w) (tested_by b t w) rest) g.truth (gives_under (get_or w.code.turns t no_turn_row).test left x.steps rest g.value w (λ a. Tested (turns_at w.code t)) g.gives l d)

turns : (t left rest : ℕ) (row : TurnRow) (x : Truth) (w : View) → row ≡ get_or w.code.turns t no_turn_row → GivesTruth (sight_of w) row.test x → x.steps ≤ left → rest ≡ left - x.steps → x.truth ≡ true → ComesTo left w w (at_test t w) (at_turn t w) rest
turns t left rest row x w e h l d y = subst (λ b. ComesTo left w w (at_test t w) (tested_by b t w) rest) y (tests t 0 left rest row x w e h l d)

negated : (b : Bool) → not b ≡ true → b ≡ false
negated true e = cc
negated false e = refl

affirmed : (b : Bool) → not b ≡ false → b ≡ true
affirmed true e = refl
affirmed false e = cc

-- a turn begins
pub turn_starts : (t left rest : ℕ) (row : TurnRow) (x : Truth) (w : View) → row ≡ get_or w.code.turns t no_turn_row → GivesTruth (sight_of w) row.test x → x.steps ≤ left → rest ≡ left - x.steps → not x.truth ≡ false → ComesTo left w w (at_test t w) (at_begun t row.body w) rest
turn_starts t left rest row x w e h l d y = subst (λ (r : TurnRow). ComesTo left w w (at_test t w) (at_begun t r.body w) rest) (sym e) (turns t left rest row x w e h l d (affirmed x.truth y))

-- a turn begins over its frame
pub turn_begins : (t left rest : ℕ) (row : TurnRow) (x : Truth) (w new : View) → row ≡ get_or w.code.turns t no_turn_row → GivesTruth (sight_of w) row.test x → x.steps ≤ left → rest ≡ left - x.steps → not x.truth ≡ false → new ≡ record w { frames = frame.Turned t ∷ w.frames }
    → ComesTo left w new (at_test t w) (at_form row.body new) rest
turn_begins t left rest row x w new e h l d y f =
    then_to left rest rest w w new (at_test t w) (at_turn t w) (at_form row.body new) (turns t left rest row x w e h l d (affirmed x.truth y))
    (subst (λ v. ComesTo rest w v (at_turn t w) (at_form row.body v) rest) (sym f) (turn_waits t rest row w e))

pub loop_ends : (t left rest : ℕ) (row : TurnRow) (x : Truth) (w : View) → row ≡ get_or w.code.turns t no_turn_row → GivesTruth (sight_of w) row.test x → x.steps ≤ left → rest ≡ left - x.steps → not x.truth ≡ true → ComesTo left w w (at_test t w) (at_value plain.Undefined w) rest
loop_ends t left rest row x w e h l d n =
    let y = negated x.truth n in
    then_to left rest rest w w w (at_test t w) (tested_by false t w) (at_value plain.Undefined w) (subst (λ b. ComesTo left w w (at_test t w) (tested_by b t w) rest) y (tests t 0 left rest row x w e h l d))
    (same_place rest w w (tested_by false t w) (at_value plain.Undefined w) (all_kept w) (λ a. refl))

-- CHOICES

abbrev chosen_by : Bool → (consequent : ℕ) → Option ℕ → View → Place
chosen_by b c o w = at_deed (λ a. if b then Become (term_at w.code c) (party_of a w) else otherwise (option_map (term_at w.code) o) (party_of a w)) w

abbrev choice : (test consequent : ℕ) → Option ℕ → View → Place
choice t c o w = at_deed (λ a. Evaluate (term_at w.code t) (party_of a w) (with_value (if_test (naming_of w.me) a.shared (term_at w.code c) (option_map (term_at w.code) o)))) w

chooses : (t c left rest : ℕ) (o : Option ℕ) (x : Truth) (w : View) → GivesTruth (sight_of w) t x → x.steps ≤ left → rest ≡ left - x.steps → ComesTo left w w (choice t c o w) (chosen_by x.truth c o w) rest
chooses t c left rest o x w h l d =
    subst (λ b. ComesTo left w w (choice t c o w) (chosen_by b c o w) rest) h.truth
    (gives_under t left x.steps rest h.value w (λ a. with_value (if_test (naming_of w.me) a.shared (term_at w.code c) (option_map (term_at w.code) o))) h.gives l d)

abbrev pub if_row : Option ℕ → (test consequent : ℕ) → Node
if_row None t c = node.If t c
if_row (Some a) t c = node.IfElse t c a

begins_choice : (at t c left : ℕ) (o : Option ℕ) (n : Node) (w : View) → n ≡ (if_row o t c) → out-Term (term_at w.code at) ≡ layer_of w.code (term_at w.code) n → 0 < left → ComesTo left w w (at_form at w) (choice t c o w) (left - 1)
begins_choice at t c left None n w i e l = row_done at left (left - 1) (node.If t c) w (e ∙ ap (layer_of w.code (term_at w.code)) i) l refl
begins_choice at t c left (Some x) n w i e l = row_done at left (left - 1) (node.IfElse t c x) w (e ∙ ap (layer_of w.code (term_at w.code)) i) l refl

-- a form or none, by a test that gives its truth value at once
pub first_chosen : (at t c left rest : ℕ) (o : Option ℕ) (n : Node) (x : Truth) (w : View) → n ≡ if_row o t c → out-Term (term_at w.code at) ≡ layer_of w.code (term_at w.code) n → x.steps < left → rest ≡ left - 1 - x.steps → GivesTruth (sight_of w) t x → x.truth ≡ true
    → ComesTo left w w (at_form at w) (at_form c w) rest
first_chosen at t c left rest o n x w i e l d h y =
    then_to left (left - 1) rest w w w (at_form at w) (choice t c o w) (at_form c w) (begins_choice at t c left o n w i e (omega (arith, l)))
    (subst (λ b. ComesTo (left - 1) w w (choice t c o w) (chosen_by b c o w) rest) y (chooses t c (left - 1) rest o x w h (omega (arith, l)) d))

pub second_chosen : (at t c k left rest : ℕ) (n : Node) (x : Truth) (w : View) → n ≡ node.IfElse t c k → out-Term (term_at w.code at) ≡ layer_of w.code (term_at w.code) n → x.steps < left → rest ≡ left - 1 - x.steps → GivesTruth (sight_of w) t x → x.truth ≡ false
    → ComesTo left w w (at_form at w) (at_form k w) rest
second_chosen at t c k left rest n x w i e l d h y =
    then_to left (left - 1) rest w w w (at_form at w) (choice t c (Some k) w) (at_form k w) (begins_choice at t c left (Some k) n w i e (omega (arith, l)))
    (subst (λ b. ComesTo (left - 1) w w (choice t c (Some k) w) (chosen_by b c (Some k) w) rest) y (chooses t c (left - 1) rest (Some k) x w h (omega (arith, l)) d))

pub none_chosen : (at t c left rest : ℕ) (n : Node) (x : Truth) (w : View) → n ≡ node.If t c → out-Term (term_at w.code at) ≡ layer_of w.code (term_at w.code) n → x.steps < left → rest ≡ left - 1 - x.steps → GivesTruth (sight_of w) t x → x.truth ≡ false
    → ComesTo left w w (at_form at w) (at_value plain.Undefined w) rest
none_chosen at t c left rest n x w i e l d h y =
    then_to left (left - 1) rest w w w (at_form at w) (choice t c None w) (at_value plain.Undefined w) (begins_choice at t c left None n w i e (omega (arith, l)))
    (then_to (left - 1) rest rest w w w (choice t c None w) (chosen_by false c None w) (at_value plain.Undefined w)
    (subst (λ b. ComesTo (left - 1) w w (choice t c None w) (chosen_by b c None w) rest) y (chooses t c (left - 1) rest None x w h (omega (arith, l)) d))
    (same_place rest w w (chosen_by false c None w) (at_value plain.Undefined w) (all_kept w) (λ a. refl)))
