-- How runs in place are put together.
use Rattle.std.proofs.Common.{◌≡◌, ℕ, suc, ◌+◌, ◌-◌, ◌≤◌, ◌<◌, ◌∷◌, drop, List, Some, refl, sym, ap, ◌∙◌, subst, arith}
use Rattle.lava_base.specs.declared.ids.MadeSymbol.{MadeSymbol}
use Rattle.lava_base.specs.declared.ids.Ref.{Ref}
use Rattle.js_text.specs.Naming.{naming_of}
use Rattle.js_text.specs.declared.value.Value.{Value}
use Rattle.js_code.specs.Decoded.{layer_of, term_at}
use Rattle.js_code.specs.declared.node.Node.{Node}
use Rattle.js_term.specs.declared.term.Term.{out-Term}
use Rattle.js_store.specs.Objects.{Object, Owned}
use Rattle.js_state.specs.Scopes.{Scope}
use Rattle.js_direct.specs.Direct.{GivesAtOnce, seen, value_of}
use Rattle.js_direct.specs.Done.{DoesAtOnce}
use Rattle.js_direct.specs.Increments.{CameOfBody}
use Rattle.js_direct.specs.declared.increments.Incremented.{Incremented}
use Rattle.js_direct.specs.declared.increments.Incremented.TheVariants as incremented
use Rattle.js_direct.specs.declared.plain.Plain.{Plain}
use Rattle.js_direct.specs.declared.plain.Plain.TheVariants as plain
use Rattle.js_direct.proofs.Charges.{one, part}
use Rattle.js_machine.specs.Bodies.{scope_of}
use Rattle.js_machine.specs.Steps.{Keeps, deed_of_row, deed_with, over, under}
use Rattle.js_machine.specs.Views.{Around, View, fitting, newest, nexts_of, party_of}
use Rattle.js_machine.specs.declared.frame.Frame.{Frame}
use Rattle.js_machine.specs.declared.frame.Frame.TheVariants as frame
use Rattle.js_machine.specs.js_run.Acts.{Evaluate, Next}
use Rattle.js_machine.specs.js_run.Going.{go_on}
use Rattle.js_machine.specs.js_run.Completions.{Replied}
use Rattle.js_machine.specs.js_run.Rows.{row_at}
use Rattle.js_machine.specs.js_run.Runs.{Begins, Charged, Due, answered, charge, run_for, settle}
use Rattle.js_machine.specs.js_run.declared.TheConstants.{MAX_DEPTH}
use Rattle.js_desc.specs.declared.reply.Reply.TheVariants as reply
use Rattle.js_in_place.specs.InPlace.{GoesTo, RunsTo, point_at, sight_of}
use Rattle.js_in_place.specs.declared.spot.Spot.{Spot}
use Rattle.js_in_place.specs.declared.spot.Stand.{Stand}
use Rattle.js_in_place.specs.Places.{CameOf, Comes, ComesTo, IsBody, IsDone, IsPart, IsWent, PartCameOf, Place, at_deed, at_form, at_item, at_list, at_mode, at_value}
use Rattle.js_in_place.specs.declared.seat.How.{How}
use Rattle.js_in_place.specs.declared.seat.How.TheVariants as how
use Rattle.js_in_place.specs.declared.seat.Seat.{Seat}
use Rattle.js_in_place.specs.declared.seat.Went.{Went}
use Rattle.js_in_place.proofs.Gone.{fits, keeps_on, me_kept}
use Rattle.js_in_place.proofs.Newest.{first_back}

pub all_kept : (w : View) → Keeps w w
all_kept w = (refl, (refl, (refl, (refl, refl))))

-- ONE AFTER THE OTHER

-- the second part, seen from an earlier machine
seen_earlier : (j : ℕ) (old mid new : View) (from to : Place) → Keeps old mid → Comes j mid new from to → (a : Around) (charges limit steps : ℕ) → charge a.rest.meter steps limit j ≡ Charged
    → (let b = fitting old a in run_for (naming_of old.me) b.shared b.env (j + charges) limit steps (from b) ≡ run_for (naming_of old.me) b.shared b.env charges limit (steps + j) (to b))
seen_earlier j old mid new from to k h a charges limit steps c =
    subst (λ me. (let b = fitting old a in run_for (naming_of me) b.shared b.env (j + charges) limit steps (from b) ≡ run_for (naming_of me) b.shared b.env charges limit (steps + j) (to b))) (me_kept old mid k)
    (subst (λ (b : Around). run_for (naming_of mid.me) b.shared b.env (j + charges) limit steps (from b) ≡ run_for (naming_of mid.me) b.shared b.env charges limit (steps + j) (to b)) (fits old mid a k)
    (h.comes a charges limit steps c))

pub further : (i j k : ℕ) (old mid new : View) (from there to : Place) → Comes i old mid from there → Comes j mid new there to → k ≡ i + j → Comes k old new from to
further i j k old mid new from there to first second e =
    record {
      comes = λ a charges limit steps c.
          (let b = fitting old a in
          let names = naming_of old.me in
          let first_paid : charge a.rest.meter steps limit i ≡ Charged = part a.rest.meter steps steps limit i k (omega (arith, e)) c in
          let rest_paid : charge a.rest.meter (steps + i) limit j ≡ Charged = part a.rest.meter steps (steps + i) limit j k (omega (arith, e)) c in
          let count : k + charges ≡ i + (j + charges) = omega (arith, e) in
          let sum : steps + i + j ≡ steps + k = omega (arith, e) in
          ap (λ m. run_for names b.shared b.env m limit steps (from b)) count
          ∙ first.comes a (j + charges) limit steps first_paid
          ∙ seen_earlier j old mid new there to first.keeps second a charges limit (steps + i) rest_paid
          ∙ ap (λ n. run_for names b.shared b.env charges limit n (to b)) sum);
      keeps = keeps_on old mid new first.keeps second.keeps;
    }

pub then_to : (left mid_left rest : ℕ) (old mid new : View) (from there to : Place) → ComesTo left old mid from there mid_left → ComesTo mid_left mid new there to rest → ComesTo left old new from to rest
then_to left mid_left rest old mid new from there to h g =
    record {
      within = omega (arith, h.within, g.within);
      comes = further (left - mid_left) (mid_left - rest) (left - rest) old mid new from there to h.comes g.comes (omega (arith, h.within, g.within));
    }

then_by : (x : How) (left mid_left rest : ℕ) (old mid new : View) (from there : Place) (s : Seat) → ComesTo left old mid from there mid_left → CameOf x mid_left mid new there s rest → CameOf x left old new from s rest
then_by how.Given left mid_left rest old mid new from there s h g = then_to left mid_left rest old mid new from there (at_value s.value new) h g
then_by how.Left left mid_left rest old mid new from there s h g = then_to left mid_left rest old mid new from there (at_value s.value new) h g
then_by how.Next left mid_left rest old mid new from there s h g = then_to left mid_left rest old mid new from there (at_form s.at new) h g
then_by how.Stopped left mid_left rest old mid new from there s h g = then_to left mid_left rest old mid new from there (at_form s.at new) h g
then_by how.Other left mid_left rest old mid new from there s h g = then_to left mid_left rest old mid new from there (at_mode s.mode new) h g
then_by how.Failed left mid_left rest old mid new from there s h g = tt

pub then_went : (left mid_left : ℕ) (old mid new : View) (from there : Place) (s : Seat) (w : Went) → ComesTo left old mid from there mid_left → IsWent there mid_left mid new s w → IsWent from left old new s w
then_went left mid_left old mid new from there s w h g = then_by w.how left mid_left w.left old mid new from there s h g

then_part_by : (x : How) (left mid_left rest : ℕ) (old mid new : View) (from there to : Place) (s : Seat) → ComesTo left old mid from there mid_left → PartCameOf x mid_left mid new there to s rest → PartCameOf x left old new from to s rest
then_part_by how.Next left mid_left rest old mid new from there to s h g = then_to left mid_left rest old mid new from there to h g
then_part_by how.Given left mid_left rest old mid new from there to s h g = then_by how.Given left mid_left rest old mid new from there s h g
then_part_by how.Left left mid_left rest old mid new from there to s h g = then_by how.Left left mid_left rest old mid new from there s h g
then_part_by how.Stopped left mid_left rest old mid new from there to s h g = then_by how.Stopped left mid_left rest old mid new from there s h g
then_part_by how.Other left mid_left rest old mid new from there to s h g = then_by how.Other left mid_left rest old mid new from there s h g
then_part_by how.Failed left mid_left rest old mid new from there to s h g = tt

pub then_part : (left mid_left : ℕ) (old mid new : View) (from there to : Place) (s : Seat) (w : Went) → ComesTo left old mid from there mid_left → IsPart there to mid_left mid new s w → IsPart from to left old new s w
then_part left mid_left old mid new from there to s w h g = then_part_by w.how left mid_left w.left old mid new from there to s h g

-- WHAT CAME OF IT

part_by : (x : How) (left rest : ℕ) (old new : View) (from to : Place) (s : Seat) → (x ≡ how.Next → ComesTo left old new from to rest) → CameOf x left old new from s rest → PartCameOf x left old new from to s rest
part_by how.Next left rest old new from to s e h = e refl
part_by how.Given left rest old new from to s e h = h
part_by how.Left left rest old new from to s e h = h
part_by how.Stopped left rest old new from to s e h = h
part_by how.Other left rest old new from to s e h = h
part_by how.Failed left rest old new from to s e h = tt

whole_by : (x : How) (left rest : ℕ) (old new : View) (from to : Place) (s : Seat) → (x ≡ how.Next → CameOf how.Next left old new from s rest) → PartCameOf x left old new from to s rest → CameOf x left old new from s rest
whole_by how.Next left rest old new from to s e h = e refl
whole_by how.Given left rest old new from to s e h = h
whole_by how.Left left rest old new from to s e h = h
whole_by how.Stopped left rest old new from to s e h = h
whole_by how.Other left rest old new from to s e h = h
whole_by how.Failed left rest old new from to s e h = tt

-- what is not next is a part as it is a whole
pub part_ends : (left : ℕ) (old new : View) (from to : Place) (s : Seat) (w : Went) → (w.how ≡ how.Next → ⊥) → IsWent from left old new s w → IsPart from to left old new s w
part_ends left old new from to s w e h = part_by w.how left w.left old new from to s (λ n. absurd (e n)) h

pub whole_ends : (left : ℕ) (old new : View) (from to : Place) (s : Seat) (w : Went) → (w.how ≡ how.Next → ⊥) → IsPart from to left old new s w → IsWent from left old new s w
whole_ends left old new from to s w e h = whole_by w.how left w.left old new from to s (λ n. absurd (e n)) h

pub other_part : (left : ℕ) (old new : View) (from to there : Place) (s : Seat) (w : Went) → (w.how ≡ how.Next → ⊥) → IsPart from to left old new s w → IsPart from there left old new s w
other_part left old new from to there s w e h = part_ends left old new from there s w e (whole_ends left old new from to s w e h)

-- and what is
pub next_went : (left : ℕ) (old new : View) (from : Place) (s : Seat) (w : Went) → w.how ≡ how.Next → IsWent from left old new s w → ComesTo left old new from (at_form s.at new) w.left
next_went left old new from s w e h = subst (λ x. CameOf x left old new from s w.left) e h

pub next_part : (left : ℕ) (old new : View) (from to : Place) (s : Seat) (w : Went) → w.how ≡ how.Next → IsPart from to left old new s w → ComesTo left old new from to w.left
next_part left old new from to s w e h = subst (λ x. PartCameOf x left old new from to s w.left) e h

pub part_goes : (left : ℕ) (old new : View) (from to : Place) (s : Seat) (w : Went) → w.how ≡ how.Next → ComesTo left old new from to w.left → IsPart from to left old new s w
part_goes left old new from to s w e h = subst (λ x. PartCameOf x left old new from to s w.left) (sym e) h

pub given_went : (left : ℕ) (old new : View) (from : Place) (s : Seat) (w : Went) → w.how ≡ how.Given → IsWent from left old new s w → ComesTo left old new from (at_value s.value new) w.left
given_went left old new from s w e h = subst (λ x. CameOf x left old new from s w.left) e h

pub left_went : (left : ℕ) (old new : View) (from : Place) (s : Seat) (w : Went) → w.how ≡ how.Left → IsWent from left old new s w → ComesTo left old new from (at_value s.value new) w.left
left_went left old new from s w e h = subst (λ x. CameOf x left old new from s w.left) e h

pub stopped_went : (left : ℕ) (old new : View) (from : Place) (s : Seat) (w : Went) → w.how ≡ how.Stopped → IsWent from left old new s w → ComesTo left old new from (at_form s.at new) w.left
stopped_went left old new from s w e h = subst (λ x. CameOf x left old new from s w.left) e h

pub other_went : (left : ℕ) (old new : View) (from : Place) (s : Seat) (w : Went) → w.how ≡ how.Other → IsWent from left old new s w → ComesTo left old new from (at_mode s.mode new) w.left
other_went left old new from s w e h = subst (λ x. CameOf x left old new from s w.left) e h

-- so a run goes on from another spot
pub runs : (left rest : ℕ) (old new : View) (p q : Spot) (s : Stand) → ComesTo left old new (λ a. point_at a old p) (λ a. point_at a new q) rest → s.spot ≡ q → s.left ≡ rest → RunsTo p left old new s
runs left rest old new p q s h e d =
    let gone : GoesTo (left - rest) p old new q = record { goes = h.comes.comes; keeps = h.comes.keeps } in
    record {
      within = omega (arith, d, h.within);
      goes = subst (λ x. GoesTo (left - s.left) p old new x) (sym e) (subst (λ k. GoesTo (left - k) p old new q) (sym d) gone);
    }

-- and a form so far, where a run goes on from a spot
spot_place : (p : Spot) (left : ℕ) (old new : View) (s : Stand) → RunsTo p left old new s → ComesTo left old new (λ a. point_at a old p) (λ a. point_at a new s.spot) s.left
spot_place p left old new s h = record { within = h.within; comes = record { comes = h.goes.goes; keeps = h.goes.keeps } }

pub comes_to_spot : (p q : Spot) (left : ℕ) (old new : View) (s : Stand) → s.spot ≡ q → RunsTo p left old new s → ComesTo left old new (λ a. point_at a old p) (λ a. point_at a new q) s.left
comes_to_spot p q left old new s e h = subst (λ (x : Spot). ComesTo left old new (λ a. point_at a old p) (λ a. point_at a new x) s.left) e (spot_place p left old new s h)

pub went_left : (left rest : ℕ) (old new : View) (from : Place) (s : Seat) (w : Went) → ComesTo left old new from (at_value s.value new) rest → w ≡ record { how = how.Left; left = rest } → IsWent from left old new s w
went_left left rest old new from s w h e = subst (λ (x : Went). IsWent from left old new s x) (sym e) h

pub part_given : (left rest : ℕ) (old new : View) (from to : Place) (s : Seat) (w : Went) → ComesTo left old new from (at_value s.value new) rest → w ≡ record { how = how.Given; left = rest } → IsPart from to left old new s w
part_given left rest old new from to s w h e = subst (λ (x : Went). IsPart from to left old new s x) (sym e) h

-- a value is given, and a form takes the place of another one
pub went_given : (left rest : ℕ) (old new : View) (from : Place) (s : Seat) (w : Went) → ComesTo left old new from (at_value s.value new) rest → w ≡ record { how = how.Given; left = rest } → IsWent from left old new s w
went_given left rest old new from s w h e = subst (λ (x : Went). IsWent from left old new s x) (sym e) h

pub went_next : (left rest : ℕ) (old new : View) (from : Place) (s : Seat) (w : Went) → ComesTo left old new from (at_form s.at new) rest → w ≡ record { how = how.Next; left = rest } → IsWent from left old new s w
went_next left rest old new from s w h e = subst (λ (x : Went). IsWent from left old new s x) (sym e) h

pub went_stopped : (left rest : ℕ) (old new : View) (from : Place) (s : Seat) (w : Went) → ComesTo left old new from (at_form s.at new) rest → w ≡ record { how = how.Stopped; left = rest } → IsWent from left old new s w
went_stopped left rest old new from s w h e = subst (λ (x : Went). IsWent from left old new s x) (sym e) h

pub part_next : (left rest : ℕ) (old new : View) (from to : Place) (s : Seat) (w : Went) → ComesTo left old new from to rest → w ≡ record { how = how.Next; left = rest } → IsPart from to left old new s w
part_next left rest old new from to s w h e = subst (λ (x : Went). IsPart from to left old new s x) (sym e) h

pub part_stopped : (left rest : ℕ) (old new : View) (from to : Place) (s : Seat) (w : Went) → ComesTo left old new from (at_form s.at new) rest → w ≡ record { how = how.Stopped; left = rest } → IsPart from to left old new s w
part_stopped left rest old new from to s w h e = subst (λ (x : Went). IsPart from to left old new s x) (sym e) h

pub went_other : (left rest : ℕ) (old new : View) (from : Place) (s : Seat) (w : Went) → ComesTo left old new from (at_mode s.mode new) rest → w ≡ record { how = how.Other; left = rest } → IsWent from left old new s w
went_other left rest old new from s w h e = subst (λ (x : Went). IsWent from left old new s x) (sym e) h

pub went_failed : (left rest : ℕ) (old new : View) (from : Place) (s : Seat) (w : Went) → w ≡ record { how = how.Failed; left = rest } → IsWent from left old new s w
went_failed left rest old new from s w e = subst (λ (x : Went). IsWent from left old new s x) (sym e) tt

pub part_failed : (left rest : ℕ) (old new : View) (from to : Place) (s : Seat) (w : Went) → w ≡ record { how = how.Failed; left = rest } → IsPart from to left old new s w
part_failed left rest old new from to s w e = subst (λ (x : Went). IsPart from to left old new s x) (sym e) tt

-- the seat has the form, or the value
pub stands_at : (left rest at : ℕ) (old mid new : View) (from : Place) (s : Seat) → new ≡ mid → s.at ≡ at → ComesTo left old mid from (at_form at mid) rest → ComesTo left old new from (at_form s.at new) rest
stands_at left rest at old mid new from s e d h = subst (λ k. ComesTo left old new from (at_form k new) rest) (sym d) (subst (λ w. ComesTo left old w from (at_form at w) rest) (sym e) h)

pub gives_at : (left rest : ℕ) (v : Plain) (old mid new : View) (from : Place) (s : Seat) → new ≡ mid → s.value ≡ v → ComesTo left old mid from (at_value v mid) rest → ComesTo left old new from (at_value s.value new) rest
gives_at left rest v old mid new from s e d h = subst (λ x. ComesTo left old new from (at_value x new) rest) (sym d) (subst (λ w. ComesTo left old w from (at_value v w) rest) (sym e) h)

-- nothing is charged, and the run stands where it stood
pub same_place : (left : ℕ) (old new : View) (from to : Place) → Keeps old new → ((a : Around) → let b = fitting old a in to b ≡ from b) → ComesTo left old new from to left
same_place left old new from to k e =
    let none : 0 ≡ left - left = omega arith in
    record {
      within = omega arith;
      comes = subst (λ n. Comes n old new from to) none (record {
        comes = λ a charges limit steps c.
            (let b = fitting old a in
            let count : 0 + charges ≡ charges = omega arith in
            let sum : steps ≡ steps + 0 = omega arith in
            λ j. run_for (naming_of old.me) b.shared b.env (count j) limit (sum j) (sym (e a) j));
        keeps = k;
      });
    }

pub still : (left : ℕ) (w : View) (from : Place) → ComesTo left w w from from left
still left w from = same_place left w w from from (all_kept w) (λ a. refl)

-- FORMS

-- the row of a form is charged, and its act is done
pub row_done : (at left rest : ℕ) (n : Node) (w : View) → out-Term (term_at w.code at) ≡ layer_of w.code (term_at w.code) n → 0 < left → rest ≡ left - 1 → ComesTo left w w (at_form at w) (at_deed (deed_of_row n w) w) rest
row_done at left rest n w e l d =
    let price : 1 ≡ left - rest = omega (arith, l, d) in
    record {
      within = omega (arith, d);
      comes = subst (λ k. Comes k w w (at_form at w) (at_deed (deed_of_row n w) w)) price (record {
        comes = λ a charges limit steps c.
            (let b = fitting w a in
            let names = naming_of w.me in
            let ks = nexts_of names b.shared w.code w.frames w.values w.waits in
            let count : 1 + charges ≡ suc charges = omega arith in
            ap (λ m. run_for names b.shared b.env m limit steps (Due 0 (Begins (term_at w.code at)) (party_of b w) ks)) count
            ∙ one names b.shared b.env charges limit steps (Begins (term_at w.code at)) (party_of b w) ks c
            ∙ ap (λ l. run_for names b.shared b.env charges limit (steps + 1) (settle names b.shared b.env ks (answered names b.env (row_at names b.shared l (party_of b w))))) e);
        keeps = all_kept w;
      });
    }

-- so it is where something waits for the form
pub row_under : (at left rest : ℕ) (n : Node) (w : View) (next : Around → Next Ref MadeSymbol) → out-Term (term_at w.code at) ≡ layer_of w.code (term_at w.code) n → 0 < left → rest ≡ left - 1
    → ComesTo left w w (at_deed (λ a. Evaluate (term_at w.code at) (party_of a w) (next a)) w)
    (λ b. settle (naming_of w.me) b.shared b.env (next b ∷ nexts_of (naming_of w.me) b.shared w.code w.frames w.values w.waits) (answered (naming_of w.me) b.env (deed_of_row n w b))) rest
row_under at left rest n w next e l d =
    let price : 1 ≡ left - rest = omega (arith, l, d) in
    record {
      within = omega (arith, d);
      comes = subst (λ k. Comes k w w (at_deed (λ a. Evaluate (term_at w.code at) (party_of a w) (next a)) w)
          (λ b. settle (naming_of w.me) b.shared b.env (next b ∷ nexts_of (naming_of w.me) b.shared w.code w.frames w.values w.waits) (answered (naming_of w.me) b.env (deed_of_row n w b)))) price (record {
            comes = λ a charges limit steps c.
                (let b = fitting w a in
                let names = naming_of w.me in
                let ks = next b ∷ nexts_of names b.shared w.code w.frames w.values w.waits in
                let count : 1 + charges ≡ suc charges = omega arith in
                ap (λ m. run_for names b.shared b.env m limit steps (Due 0 (Begins (term_at w.code at)) (party_of b w) ks)) count
                ∙ one names b.shared b.env charges limit steps (Begins (term_at w.code at)) (party_of b w) ks c
                ∙ ap (λ l. run_for names b.shared b.env charges limit (steps + 1) (settle names b.shared b.env ks (answered names b.env (row_at names b.shared l (party_of b w))))) e);
            keeps = all_kept w;
          });
    }

-- a form is done at once, whatever waits for its value
done_under : (at left k rest : ℕ) (v : Plain) (objects : List (Object Ref MadeSymbol)) (scopes : List (Scope Ref MadeSymbol)) (w : View) (next : Around → Next Ref MadeSymbol)
    → DoesAtOnce (sight_of w) w.common at (value_of v) objects scopes k → w.depth + 2 < MAX_DEPTH → k ≤ left → rest ≡ left - k
    → (let new = record w { objects = objects; scopes = scopes } in ComesTo left w new (at_deed (λ a. Evaluate (term_at w.code at) (party_of a w) (next a)) w)
    (at_deed (λ a. go_on (naming_of w.me) a.shared (next a) (Replied (reply.Value (value_of v))) (party_of a new)) new) rest)
done_under at left k rest v objects scopes w next h d l e =
    let price : k ≡ left - rest = omega (arith, l, e) in
    let new = record w { objects = objects; scopes = scopes } in
    record {
      within = omega (arith, l, e);
      comes = subst (λ n. Comes n w new (at_deed (λ a. Evaluate (term_at w.code at) (party_of a w) (next a)) w) (at_deed (λ a. go_on (naming_of w.me) a.shared (next a) (Replied (reply.Value (value_of v))) (party_of a new)) new)) price (record {
        comes = λ a charges limit steps c.
            (let b = fitting w a in
            h.does b.shared b.env (party_of b w) (next b ∷ nexts_of (naming_of w.me) b.shared w.code w.frames w.values w.waits) charges limit steps refl refl refl refl d c);
        keeps = all_kept w;
      });
    }

-- and gives its value to the newest frame
done_alone : (at left k rest : ℕ) (v : Plain) (objects : List (Object Ref MadeSymbol)) (scopes : List (Scope Ref MadeSymbol)) (w : View) → DoesAtOnce (sight_of w) w.common at (value_of v) objects scopes k → w.depth + 2 < MAX_DEPTH → k ≤ left → rest ≡ left - k
    → (let new = record w { objects = objects; scopes = scopes } in ComesTo left w new (at_form at w) (at_value v new) rest)
done_alone at left k rest v objects scopes w h d l e =
    let price : k ≡ left - rest = omega (arith, l, e) in
    let new = record w { objects = objects; scopes = scopes } in
    record {
      within = omega (arith, l, e);
      comes = subst (λ n. Comes n w new (at_form at w) (at_value v new)) price (record {
        comes = λ a charges limit steps c.
            (let b = fitting w a in
            h.does b.shared b.env (party_of b w) (nexts_of (naming_of w.me) b.shared w.code w.frames w.values w.waits) charges limit steps refl refl refl refl d c);
        keeps = all_kept w;
      });
    }

pub done_here : (at left k rest : ℕ) (v : Plain) (w new : View) → IsDone at w new v k → k ≤ left → rest ≡ left - k → ComesTo left w new (at_form at w) (at_value v new) rest
done_here at left k rest v w new h l e = subst (λ x. ComesTo left w x (at_form at w) (at_value v x) rest) (sym h.is) (done_alone at left k rest v new.objects new.scopes w h.does h.depth l e)

-- over a frame
pub done_over : (f : Frame) (at left k rest : ℕ) (v : Plain) (w new : View) → IsDone at w new v k → k ≤ left → rest ≡ left - k
    → ComesTo left w new (at_deed (λ a. Evaluate (term_at w.code at) (party_of a w) (over f w a)) w) (at_deed (λ a. go_on (naming_of w.me) a.shared (over f w a) (Replied (reply.Value (value_of v))) (party_of a new)) new) rest
done_over f at left k rest v w new h l e =
    subst (λ x. ComesTo left w x (at_deed (λ a. Evaluate (term_at w.code at) (party_of a w) (over f w a)) w) (at_deed (λ a. go_on (naming_of w.me) a.shared (over f w a) (Replied (reply.Value (value_of v))) (party_of a x)) x) rest) (sym h.is)
    (done_under at left k rest v new.objects new.scopes w (over f w) h.does h.depth l e)

-- of a list
pub done_in_list : (at s c left k rest : ℕ) (v : Plain) (w new : View) → IsDone at w new v k → k ≤ left → rest ≡ left - k → ComesTo left w new (at_item at s c w) (at_list s c new) rest
done_in_list at s c left k rest v w new h l e =
    subst (λ x. ComesTo left w x (at_item at s c w) (at_list s c x) rest) (sym h.is) (done_under at left k rest v new.objects new.scopes w (over (frame.Seq s c) w) h.does h.depth l e)

-- a body like that of `x++`
pub body_done : (x : Incremented) (at left : ℕ) (old new : View) → ((store : Owned) → CameOfBody x (seen store.party store.objects old.code old.scopes (scope_of old.bodies)) at new.scopes) → old.depth + 2 < MAX_DEPTH → 9 ≤ left → new ≡ record old { scopes = new.scopes } → IsBody x at left old new
body_done (incremented.Gave n) at left old new h d l e =
    let stays : new.objects ≡ old.objects = ap (λ w. w.objects) e in
    let done = h (record { party = record { 0 = old.me }; objects = old.objects }) old.common in (
      record {
        does = subst (λ os. DoesAtOnce (sight_of old) old.common at (value_of (plain.Int n)) os new.scopes 9) (sym stays) done;
        depth = d;
        is = e ∙ ap (λ os. record old { objects = os; scopes = new.scopes }) (sym stays);
      },
      l,
    )
body_done incremented.Nothing at left old new h d l e = e ∙ ap (λ cs. record old { scopes = cs }) (h (record { party = record { 0 = old.me }; objects = old.objects }))
body_done incremented.Failed at left old new h d l e = tt

-- a form gives a value at once, whatever waits for it
pub gives_under : (at left k rest : ℕ) (v : Value Ref MadeSymbol) (w : View) (next : Around → Next Ref MadeSymbol) → GivesAtOnce (sight_of w) at v k → k ≤ left → rest ≡ left - k
    → ComesTo left w w (at_deed (λ a. Evaluate (term_at w.code at) (party_of a w) (next a)) w) (at_deed (λ a. go_on (naming_of w.me) a.shared (next a) (Replied (reply.Value v)) (party_of a w)) w) rest
gives_under at left k rest v w next h l e =
    let price : k ≡ left - rest = omega (arith, l, e) in
    record {
      within = omega (arith, l, e);
      comes = subst (λ n. Comes n w w (at_deed (λ a. Evaluate (term_at w.code at) (party_of a w) (next a)) w) (at_deed (λ a. go_on (naming_of w.me) a.shared (next a) (Replied (reply.Value v)) (party_of a w)) w)) price (record {
        comes = λ a charges limit steps c.
            (let b = fitting w a in
            h.gives b.shared b.env (party_of b w) (next b ∷ nexts_of (naming_of w.me) b.shared w.code w.frames w.values w.waits) charges limit steps refl refl refl c);
        keeps = all_kept w;
      });
    }

-- FRAMES

-- a form begins over a new frame
pub pushed : (f : Frame) (at left : ℕ) (w : View) → ComesTo left (under f w) (record w { frames = f ∷ w.frames }) (at_deed (λ a. Evaluate (term_at w.code at) (party_of a w) (over f w a)) (under f w)) (at_form at (record w { frames = f ∷ w.frames })) left
pushed f at left w = same_place left (under f w) (record w { frames = f ∷ w.frames }) (at_deed (λ a. Evaluate (term_at w.code at) (party_of a w) (over f w a)) (under f w)) (at_form at (record w { frames = f ∷ w.frames })) (all_kept w) (λ a. refl)

-- a value comes to the newest frame, which is taken off
popped_low : (f : Frame) (v : Plain) (left : ℕ) (low : View) → ComesTo left (record low { frames = f ∷ low.frames }) (under f low) (at_value v (record low { frames = f ∷ low.frames })) (at_deed (deed_with f (value_of v) low) (under f low)) left
popped_low f v left low = same_place left (record low { frames = f ∷ low.frames }) (under f low) (at_value v (record low { frames = f ∷ low.frames })) (at_deed (deed_with f (value_of v) low) (under f low)) (all_kept low) (λ a. refl)

pub popped : (f : Frame) (v : Plain) (left : ℕ) (old low : View) → newest old.frames ≡ Some f → low ≡ record old { frames = drop 1 old.frames } → ComesTo left old (under f low) (at_value v old) (at_deed (deed_with f (value_of v) low) (under f low)) left
popped f v left old low e d =
    let back : record low { frames = f ∷ low.frames } ≡ old = (λ j. record (d j) { frames = f ∷ (d j).frames }) ∙ ap (λ fs. record old { frames = fs }) (sym (first_back f old.frames e)) in
    subst (λ w. ComesTo left w (under f low) (at_value v w) (at_deed (deed_with f (value_of v) low) (under f low)) left) back (popped_low f v left low)
