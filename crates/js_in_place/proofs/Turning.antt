-- Turns of loops, and what follows them, by the places where a run stands in them.
use Rattle.std.proofs.Common.{◌≡◌, ℕ, suc, ◌+◌, ◌-◌, ◌≤◌, ◌<◌, List, [], ◌∷◌, drop, get_or, length, length-drop, length-take, map, replicate, None, refl, sym, ap, ◌∙◌, subst, arith}
use Rattle.lava_base.specs.declared.ids.MadeSymbol.{MadeSymbol}
use Rattle.lava_base.specs.declared.ids.Ref.{Ref}
use Rattle.js_text.specs.Naming.{naming_of}
use Rattle.js_desc.specs.declared.reply.Reply.TheVariants as reply
use Rattle.js_code.specs.Decoded.{term_at}
use Rattle.js_code.specs.Tables.{Tables, part_of}
use Rattle.js_code.specs.declared.node.Node.{Node}
use Rattle.js_code.specs.declared.node.Node.TheVariants as node
use Rattle.js_direct.specs.Direct.{value_of}
use Rattle.js_direct.specs.Increments.{HasRow}
use Rattle.js_direct.specs.declared.plain.Plain.{Plain}
use Rattle.js_direct.specs.declared.plain.Plain.TheVariants as plain
use Rattle.js_direct.proofs.Charges.{one}
use Rattle.js_term.specs.declared.term.Jump.TheVariants.{outs-Return}
use Rattle.js_machine.specs.Bodies.{scope_of, stood_in}
use Rattle.js_machine.specs.Steps.{deed_of_row}
use Rattle.js_machine.specs.Views.{Around, View, fitting, nexts_of, party_of, turns_at, with_copy, with_scope}
use Rattle.js_machine.specs.declared.frame.Frame.TheVariants as frame
use Rattle.js_machine.specs.js_run.Acts.{Give, Next, Turned, Updated, with_value}
use Rattle.js_machine.specs.js_run.Completions.{Replied}
use Rattle.js_machine.specs.js_run.Control.{in_order, jump_at, left_to}
use Rattle.js_machine.specs.js_run.Rows.{row_at}
use Rattle.js_machine.specs.js_run.Runs.{Begins, Due, Gives, answered, run_for, settle}
use Rattle.js_machine.proofs.Listed.{part_first, part_within}
use Rattle.js_in_place.specs.Places.{Comes, ComesTo, IsDone, Place, after_turn, at_deed, at_form, at_list, at_return, at_test, at_update}
use Rattle.js_in_place.specs.Turns.{IsRenewal, at_begun, at_inside, deed_under, list_under, turn_list}
use Rattle.js_in_place.proofs.Placed.{all_kept, done_over, pushed, row_done, row_under, same_place, still, then_to}

-- WHATEVER WAITS

-- a form begins, and these wait
abbrev begins_on : (Around → List (Next Ref MadeSymbol)) → ℕ → View → Place
begins_on ks at w = λ b. Due 0 (Begins (term_at w.code at)) (party_of b w) (ks b)

-- what its row says is done
abbrev row_on : (Around → List (Next Ref MadeSymbol)) → Node → View → Place
row_on ks n w = λ b. settle (naming_of w.me) b.shared b.env (ks b) (answered (naming_of w.me) b.env (deed_of_row n w b))

-- it gave a value
abbrev gives_on : (Around → List (Next Ref MadeSymbol)) → Plain → (old new : View) → Place
gives_on ks v old new = λ b. settle (naming_of old.me) b.shared b.env (ks b) (Gives (Replied (reply.Value (value_of v))) (party_of b new))

row_begins : (ks : Around → List (Next Ref MadeSymbol)) (at left rest : ℕ) (n : Node) (w : View) → HasRow w.code at n → 0 < left → rest ≡ left - 1 → ComesTo left w w (begins_on ks at w) (row_on ks n w) rest
row_begins ks at left rest n w e l d =
    let price : 1 ≡ left - rest = omega (arith, l, d) in
    record {
      within = omega (arith, d);
      comes = subst (λ k. Comes k w w (begins_on ks at w) (row_on ks n w)) price (record {
        comes = λ a charges limit steps c.
            (let b = fitting w a in
            let names = naming_of w.me in
            let count : 1 + charges ≡ suc charges = omega arith in
            ap (λ m. run_for names b.shared b.env m limit steps (Due 0 (Begins (term_at w.code at)) (party_of b w) (ks b))) count
            ∙ one names b.shared b.env charges limit steps (Begins (term_at w.code at)) (party_of b w) (ks b) c
            ∙ ap (λ l. run_for names b.shared b.env charges limit (steps + 1) (settle names b.shared b.env (ks b) (answered names b.env (row_at names b.shared l (party_of b w))))) e);
        keeps = all_kept w;
      });
    }

done_on : (ks : Around → List (Next Ref MadeSymbol)) (at left k rest : ℕ) (v : Plain) (w new : View) → IsDone at w new v k → k ≤ left → rest ≡ left - k → ComesTo left w new (begins_on ks at w) (gives_on ks v w new) rest
done_on ks at left k rest v w new h l e =
    let price : k ≡ left - rest = omega (arith, l, e) in
    let done = record w { objects = new.objects; scopes = new.scopes } in
    subst (λ x. ComesTo left w x (begins_on ks at w) (gives_on ks v w x) rest) (sym h.is)
    (record {
      within = omega (arith, l, e);
      comes = subst (λ n. Comes n w done (begins_on ks at w) (gives_on ks v w done)) price (record {
        comes = λ a charges limit steps c.
            (let b = fitting w a in
            h.does.does b.shared b.env (party_of b w) (ks b) charges limit steps refl refl refl refl h.depth c);
        keeps = all_kept w;
      });
    })

-- where a form was done at once
done_so : (at k : ℕ) (v : Plain) (w new : View) → IsDone at w new v k → IsDone at w (record w { objects = new.objects; scopes = new.scopes }) v k
done_so at k v w new h = record { does = h.does; depth = h.depth; is = refl }

-- LISTS

abbrev listed : (Around → Next Ref MadeSymbol) → List ℕ → View → Place
listed next ns w = deed_under next (λ a. in_order (map (term_at w.code) ns) (party_of a w)) w

abbrev rest_waits : (Around → Next Ref MadeSymbol) → List ℕ → View → Around → List (Next Ref MadeSymbol)
rest_waits next ns w = λ b. with_value (λ v p. in_order (map (term_at w.code) ns) p) ∷ next b ∷ nexts_of (naming_of w.me) b.shared w.code w.frames w.values w.waits

done_by : (next : Around → Next Ref MadeSymbol) (n : ℕ) (ns : List ℕ) (left k rest : ℕ) (v : Plain) (w new : View) → 2 ≤ length (n ∷ ns) → IsDone n w new v k → k ≤ left → rest ≡ left - k → ComesTo left w new (listed next (n ∷ ns) w) (listed next ns new) rest
done_by next n [] left k rest v w new z h l e = absurd (omega (arith, z))
done_by next n (m ∷ ns) left k rest v w new z h l e =
    let done = record w { objects = new.objects; scopes = new.scopes } in
    subst (λ x. ComesTo left w x (listed next (n ∷ m ∷ ns) w) (listed next (m ∷ ns) x) rest) (sym h.is)
    (done_on (rest_waits next (m ∷ ns) w) n left k rest v w done (done_so n k v w new h) l e)

-- the first of several forms is done at once
pub first_done : (next : Around → Next Ref MadeSymbol) (s c s' c' at left k rest : ℕ) (v : Plain) (w new : View) → 2 ≤ length (part_of s c w.code.numbers) → 2 ≤ c → s' ≡ s + 1 → c' ≡ c - 1 → at ≡ get_or w.code.numbers s 0
    → IsDone at w new v k → k ≤ left → rest ≡ left - k → ComesTo left w new (list_under next s c w) (list_under next s' c' new) rest
first_done next s c s' c' at left k rest v w new z y p q i h l e =
    let ns = w.code.numbers in
    let done = record w { objects = new.objects; scopes = new.scopes } in
    let first = part_first ns s c s' c' (omega (arith, y, q)) (omega (arith, p)) (part_within ns s c (omega (arith, z))) in
    let two : 2 ≤ length (get_or ns s 0 ∷ part_of s' c' ns) = subst (λ xs. 2 ≤ length xs) first z in
    let here : IsDone (get_or ns s 0) w done v k = subst (λ n. IsDone n w done v k) i (done_so at k v w new h) in
    subst (λ x. ComesTo left w x (list_under next s c w) (list_under next s' c' x) rest) (sym h.is)
    (subst (λ xs. ComesTo left w done (listed next xs w) (listed next (part_of s' c' ns) done) rest) (sym first)
    (done_by next (get_or ns s 0) (part_of s' c' ns) left k rest v w done two here l e))

-- and so many are left then
pub fewer : (ns : List ℕ) (n s c s' c' : ℕ) → n < length (part_of s c ns) → 1 ≤ n → 1 ≤ c → s' ≡ s + 1 → c' ≡ c - 1 → n - 1 < length (part_of s' c' ns)
fewer ns n s c s' c' z y x p q =
    let first = part_first ns s c s' c' (omega (arith, x, q)) (omega (arith, p)) (part_within ns s c (omega (arith, z))) in
    let more : n < suc (length (part_of s' c' ns)) = subst (λ xs. n < length xs) first z in
    omega (arith, more, y)

-- so the first forms are done, one after the other
module _ (next : Around → Next Ref MadeSymbol) (s c i most at left k rest whole : ℕ) (v : Plain) (first old new : View) (so_far : ComesTo whole first old (list_under next s c first) (list_under next (s + i) (c - i) old) left)
    (many : most - i < length (part_of (s + i) (c - i) old.code.numbers)) (more : i < most) (fits : most < c) (is : at ≡ get_or old.code.numbers (s + i) 0) (h : IsDone at old new v k) (l : k ≤ left) (e : rest ≡ left - k) where
  pub one_more : (ComesTo whole first new (list_under next s c first) (list_under next (s + (i + 1)) (c - (i + 1)) new) rest) × (most - (i + 1) < length (part_of (s + (i + 1)) (c - (i + 1)) new.code.numbers))
  one_more =
      let start : s + (i + 1) ≡ s + i + 1 = omega arith in
      let count : c - (i + 1) ≡ c - i - 1 = omega arith in
      let step = first_done next (s + i) (c - i) (s + (i + 1)) (c - (i + 1)) at left k rest v old new (omega (arith, many, more)) (omega (arith, more, fits)) start count is h l e in
      let less = fewer old.code.numbers (most - i) (s + i) (c - i) (s + (i + 1)) (c - (i + 1)) many (omega (arith, more)) (omega (arith, more, fits)) start count in
      let so_many : most - (i + 1) < length (part_of (s + (i + 1)) (c - (i + 1)) old.code.numbers) = omega (arith, less) in (
        then_to whole left rest first old new (list_under next s c first) (list_under next (s + i) (c - i) old) (list_under next (s + (i + 1)) (c - (i + 1)) new) so_far step,
        subst (λ x. most - (i + 1) < length (part_of (s + (i + 1)) (c - (i + 1)) x.numbers)) (sym step.comes.keeps.1.0) so_many,
      )

pub none_yet : (next : Around → Next Ref MadeSymbol) (s c most left : ℕ) (w : View) → most < length (part_of s c w.code.numbers) → (ComesTo left w w (list_under next s c w) (list_under next (s + 0) (c - 0) w) left) × (most - 0 < length (part_of (s + 0) (c - 0) w.code.numbers))
none_yet next s c most left w l =
    let start : s ≡ s + 0 = omega arith in
    let count : c ≡ c - 0 = omega arith in
    let same : most ≡ most - 0 = omega arith in (
      subst (λ x. ComesTo left w w (list_under next s c w) (list_under next x (c - 0) w) left) start (subst (λ x. ComesTo left w w (list_under next s c w) (list_under next s x w) left) count (still left w (list_under next s c w))),
      subst (λ x. x < length (part_of (s + 0) (c - 0) w.code.numbers)) same (subst (λ x. most < length (part_of x (c - 0) w.code.numbers)) start (subst (λ x. most < length (part_of s x w.code.numbers)) count l)),
    )

-- TURNS

-- the body of a turn is a list
pub list_begun : (t at s c left rest : ℕ) (w : View) → HasRow w.code at (node.Seq s c) → 0 < left → rest ≡ left - 1 → ComesTo left w w (at_begun t at w) (turn_list t s c w) rest
list_begun t at s c left rest w e l d = row_under at left rest (node.Seq s c) w (λ a. Turned (turns_at w.code t)) e l d

-- a turn of nothing is over
over_by : (t left : ℕ) (ns : List ℕ) (w : View) → 0 ≡ length ns → ComesTo left w w (listed (λ a. Turned (turns_at w.code t)) ns w) (after_turn t w) left
over_by t left [] w e = still left w (after_turn t w)
over_by t left (n ∷ ns) w e = cc

pub nothing_listed : (t s c n left : ℕ) (w : View) → n ≡ length (part_of s c w.code.numbers) → n ≡ 0 → ComesTo left w w (turn_list t s c w) (after_turn t w) left
nothing_listed t s c n left w e z = over_by t left (part_of s c w.code.numbers) w (sym z ∙ e)

-- the last form takes the place of the list
last_by : (t left n : ℕ) (ns : List ℕ) (w : View) → 1 ≡ length (n ∷ ns) → ComesTo left w w (listed (λ a. Turned (turns_at w.code t)) (n ∷ ns) w) (at_begun t n w) left
last_by t left n [] w e = still left w (at_begun t n w)
last_by t left n (m ∷ ns) w e = cc

last_begun : (t s c at left : ℕ) (w : View) → 1 ≡ length (part_of s c w.code.numbers) → 1 ≤ c → at ≡ get_or w.code.numbers s 0 → ComesTo left w w (turn_list t s c w) (at_begun t at w) left
last_begun t s c at left w e l i =
    let ns = w.code.numbers in
    let first = part_first ns s c (suc s) (c - 1) (omega (arith, l)) refl (part_within ns s c (omega (arith, e))) in
    let one : 1 ≡ length (get_or ns s 0 ∷ part_of (suc s) (c - 1) ns) = e ∙ ap (λ xs. length xs) first in
    subst (λ n. ComesTo left w w (turn_list t s c w) (at_begun t n w) left) (sym i)
    (subst (λ xs. ComesTo left w w (listed (λ a. Turned (turns_at w.code t)) xs w) (at_begun t (get_or ns s 0) w) left) (sym first) (last_by t left (get_or ns s 0) (part_of (suc s) (c - 1) ns) w one))

-- it is done at once
pub turn_done : (t at left k rest : ℕ) (v : Plain) (w new : View) → IsDone at w new v k → k ≤ left → rest ≡ left - k → ComesTo left w new (at_begun t at w) (after_turn t new) rest
turn_done t at left k rest v w new h l e =
    let done = record w { objects = new.objects; scopes = new.scopes } in
    subst (λ x. ComesTo left w x (at_begun t at w) (after_turn t x) rest) (sym h.is) (done_over (frame.Turned t) at left k rest v w done (done_so at k v w new h) l e)

-- one form of a list is behind all but one
last_left : (ns : List ℕ) (s c n i : ℕ) → n ≡ length (part_of s c ns) → i ≡ n - 1 → 0 < n → n ≤ c → 1 ≡ length (part_of (s + i) (c - i) ns)
last_left ns s c n i e d some m = omega (arith, e, d, some, m, length-take c (drop s ns), length-drop s ns, length-take (c - i) (drop (s + i) ns), length-drop (s + i) ns)

-- the list of a turn, of which so many forms are done
module _ (t s c n i left rest : ℕ) (old mid : View) (e : n ≡ length (part_of s c old.code.numbers)) (m : n ≤ c) (some : 0 < n)
    (goes : (next : Around → Next Ref MadeSymbol) → n - 1 < length (part_of s c old.code.numbers) → n - 1 < c → ComesTo left old mid (list_under next s c old) (list_under next (s + i) (c - i) mid) rest) where
  pub rest_follows : ComesTo left old mid (turn_list t s c old) (turn_list t (s + i) (c - i) mid) rest
  rest_follows =
      let there = goes (λ a. Turned (turns_at old.code t)) (omega (arith, e, some)) (omega (arith, m, some)) in
      subst (λ (x : Tables). ComesTo left old mid (turn_list t s c old) (list_under (λ a. Turned (turns_at x t)) (s + i) (c - i) mid) rest) (sym there.comes.keeps.1.0) there

  pub last_follows : (at : ℕ) → i ≡ n - 1 → at ≡ get_or mid.code.numbers (s + (n - 1)) 0 → ComesTo left old mid (turn_list t s c old) (at_begun t at mid) rest
  last_follows at d q =
      let there = rest_follows in
      let one = last_left old.code.numbers s c n i e d some m in
      then_to left rest rest old mid mid (turn_list t s c old) (turn_list t (s + i) (c - i) mid) (at_begun t at mid) there
      (last_begun t (s + i) (c - i) at rest mid (subst (λ (x : Tables). 1 ≡ length (part_of (s + i) (c - i) x.numbers)) (sym there.comes.keeps.1.0) one) (omega (arith, d, m, some)) (q ∙ ap (λ k. get_or mid.code.numbers (s + k) 0) (sym d)))

-- the rest of a turn over its frame
pub rest_begins : (t s c left : ℕ) (w new : View) → new ≡ record w { frames = frame.Turned t ∷ w.frames } → ComesTo left w new (turn_list t s c w) (at_list s c new) left
rest_begins t s c left w new e =
    let there = record w { frames = frame.Turned t ∷ w.frames } in
    subst (λ x. ComesTo left w x (turn_list t s c w) (at_list s c x) left) (sym e) (same_place left w there (turn_list t s c w) (at_list s c there) (all_kept w) (λ a. refl))

pub whole_begins : (t at left : ℕ) (w new : View) → new ≡ record w { frames = frame.Turned t ∷ w.frames } → ComesTo left w new (at_begun t at w) (at_form at new) left
whole_begins t at left w new e = subst (λ x. ComesTo left w x (at_begun t at w) (at_form at x) left) (sym e) (pushed (frame.Turned t) at left w)

-- A BODY ENDS

none_returned : (left : ℕ) (w : View) → ComesTo left w w (at_deed (deed_of_row node.Return w) w) (at_return plain.Undefined w) left
none_returned left w = subst (λ x. ComesTo left w w (at_deed (λ a. jump_at x (party_of a w)) w) (at_return plain.Undefined w) left) (sym (outs-Return None)) (still left w (at_return plain.Undefined w))

pub return_done : (at left rest : ℕ) (w : View) → HasRow w.code at node.Return → 0 < left → rest ≡ left - 1 → ComesTo left w w (at_form at w) (at_return plain.Undefined w) rest
return_done at left rest w e l d = then_to left rest rest w w w (at_form at w) (at_deed (deed_of_row node.Return w) w) (at_return plain.Undefined w) (row_done at left rest node.Return w e l d) (none_returned rest w)

-- WHAT FOLLOWS A TURN

abbrev after : ℕ → View → Around → List (Next Ref MadeSymbol)
after t w = λ b. Updated (turns_at w.code t) ∷ nexts_of (naming_of w.me) b.shared w.code w.frames w.values w.waits

-- a list of two forms
abbrev second_waits : (turns second : ℕ) → View → Around → List (Next Ref MadeSymbol)
second_waits t n w = λ b. with_value (λ v p. in_order (term_at w.code n ∷ []) p) ∷ after t w b

two_begin : (t at n body left rest : ℕ) (w : View) (r : IsRenewal w.code at n body) → 0 < left → rest ≡ left - 1 → ComesTo left w w (at_update t at w) (begins_on (second_waits t r.second w) r.first w) rest
two_begin t at n body left rest w r l d =
    subst (λ xs. ComesTo left w w (at_update t at w) (listed (λ a. Updated (turns_at w.code t)) xs w) rest) r.forms (row_under at left rest (node.Seq r.start r.count) w (λ a. Updated (turns_at w.code t)) r.list l d)

copy_made : (t first second left rest : ℕ) (w : View) → HasRow w.code first node.Fresh → 0 < left → rest ≡ left - 1 → (let mid = with_copy w in ComesTo left w mid (begins_on (second_waits t second w) first w) (begins_on (after t mid) second mid) rest)
copy_made t first second left rest w e l d =
    let mid = with_copy w in
    then_to left rest rest w w mid (begins_on (second_waits t second w) first w) (row_on (second_waits t second w) node.Fresh w) (begins_on (after t mid) second mid)
    (row_begins (second_waits t second w) first left rest node.Fresh w e l d)
    (same_place rest w mid (row_on (second_waits t second w) node.Fresh w) (begins_on (after t mid) second mid) (all_kept w) (λ a. refl))

scope_made : (t at n body left rest : ℕ) (w : View) → HasRow w.code at (node.Scope n body) → 0 < left → rest ≡ left - 1 → (let inner = with_scope (replicate n None) w in ComesTo left w inner (begins_on (after t w) at w) (at_inside t (scope_of w.bodies) body inner) rest)
scope_made t at n body left rest w e l d =
    let inner = with_scope (replicate n None) w in
    then_to left rest rest w w inner (begins_on (after t w) at w) (row_on (after t w) (node.Scope n body) w) (at_inside t (scope_of w.bodies) body inner)
    (row_begins (after t w) at left rest (node.Scope n body) w e l d)
    (same_place rest w inner (row_on (after t w) (node.Scope n body) w) (at_inside t (scope_of w.bodies) body inner) (all_kept w) (λ a. refl))

renewed_so : (t at n body left : ℕ) (w : View) → IsRenewal w.code at n body → (let mid = with_copy w in let inner = with_scope (replicate n None) mid in ComesTo (left + 3) w inner (at_update t at w) (at_inside t (scope_of mid.bodies) body inner) left)
renewed_so t at n body left w r =
    let mid = with_copy w in
    let inner = with_scope (replicate n None) mid in
    then_to (left + 3) (left + 2) left w w inner (at_update t at w) (begins_on (second_waits t r.second w) r.first w) (at_inside t (scope_of mid.bodies) body inner)
    (two_begin t at n body (left + 3) (left + 2) w r (omega arith) (omega arith))
    (then_to (left + 2) (left + 1) left w mid inner (begins_on (second_waits t r.second w) r.first w) (begins_on (after t mid) r.second mid) (at_inside t (scope_of mid.bodies) body inner)
    (copy_made t r.first r.second (left + 2) (left + 1) w r.fresh (omega arith) (omega arith))
    (scope_made t r.second n body (left + 1) left mid r.scope (omega arith) (omega arith)))

-- a copy of the innermost scope is there, and a form begins in a new scope in it
pub renewed : (t at n body scope left : ℕ) (w mid inner : View) → IsRenewal w.code at n body → mid ≡ with_copy w → scope ≡ scope_of mid.bodies → inner ≡ with_scope (replicate n None) mid → ComesTo (left + 3) w inner (at_update t at w) (at_inside t scope body inner) left
renewed t at n body scope left w mid inner r m s i =
    let place : scope ≡ scope_of (with_copy w).bodies = s ∙ ap (λ x. scope_of x.bodies) m in
    let there : inner ≡ with_scope (replicate n None) (with_copy w) = i ∙ ap (with_scope (replicate n None)) m in
    subst (λ k. ComesTo (left + 3) w inner (at_update t at w) (at_inside t k body inner) left) (sym place)
    (subst (λ x. ComesTo (left + 3) w x (at_update t at w) (at_inside t (scope_of (with_copy w).bodies) body x) left) (sym there) (renewed_so t at n body left w r))

abbrev inside_waits : (turns scope : ℕ) → View → Around → List (Next Ref MadeSymbol)
inside_waits t s w = λ b. left_to s Give ∷ after t w b

left_so : (t s left : ℕ) (v : Plain) (w done : View) → done ≡ record w { objects = done.objects; scopes = done.scopes } → (let new = record done { bodies = stood_in s done.bodies } in ComesTo left done new (gives_on (inside_waits t s w) v w done) (at_test t new) left)
left_so t s left v w done e =
    let there = record w { objects = done.objects; scopes = done.scopes } in
    subst (λ x. ComesTo left x (record x { bodies = stood_in s x.bodies }) (gives_on (inside_waits t s w) v w x) (at_test t (record x { bodies = stood_in s x.bodies })) left) (sym e)
    (let new = record there { bodies = stood_in s there.bodies } in same_place left there new (gives_on (inside_waits t s w) v w there) (at_test t new) (all_kept there) (λ a. refl))

-- it is done at once, and the scope is left
pub inside_done : (t scope body left k rest : ℕ) (v : Plain) (w done new : View) → IsDone body w done v k → k ≤ left → rest ≡ left - k → new ≡ record done { bodies = stood_in scope done.bodies } → ComesTo left w new (at_inside t scope body w) (at_test t new) rest
inside_done t scope body left k rest v w done new h l e f =
    subst (λ x. ComesTo left w x (at_inside t scope body w) (at_test t x) rest) (sym f)
    (let there = record done { bodies = stood_in scope done.bodies } in
    then_to left rest rest w done there (at_inside t scope body w) (gives_on (inside_waits t scope w) v w done) (at_test t there)
    (done_on (inside_waits t scope w) body left k rest v w done h l e) (left_so t scope rest v w done h.is))

-- or over its frames
pub inside_begins : (t scope body left : ℕ) (w mid new : View) → mid ≡ record w { frames = frame.Updated t ∷ w.frames } → new ≡ record mid { frames = frame.ScopeExit scope ∷ mid.frames } → ComesTo left w new (at_inside t scope body w) (at_form body new) left
inside_begins t scope body left w mid new m e =
    let there = record w { frames = frame.ScopeExit scope ∷ frame.Updated t ∷ w.frames } in
    let same : new ≡ there = e ∙ (λ j. record (m j) { frames = frame.ScopeExit scope ∷ (m j).frames }) in
    subst (λ x. ComesTo left w x (at_inside t scope body w) (at_form body x) left) (sym same) (same_place left w there (at_inside t scope body w) (at_form body there) (all_kept w) (λ a. refl))
