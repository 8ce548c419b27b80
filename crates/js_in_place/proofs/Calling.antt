-- Calls of the party's own functions, by the places where a run stands in them.
use Rattle.std.proofs.Common.{◌≡◌, ℕ, suc, ◌+◌, ◌-◌, ◌≤◌, ◌<◌, List, [], ◌∷◌, ◌++◌, get_or, length, map, take, drop, Some, None, refl, sym, ap, ◌∙◌, subst, arith}
use mathlib.Core.List.{reverse-cons}
use Rattle.lava_base.specs.declared.ids.MadeSymbol.{MadeSymbol}
use Rattle.lava_base.specs.declared.ids.Ref.{Ref}
use Rattle.js_text.specs.Naming.{naming_of}
use Rattle.js_text.specs.declared.value.Value.{Value}
use Rattle.js_text.specs.declared.value.Value.TheVariants as value
use Rattle.js_code.specs.Decoded.{arguments_of, layer_of, no_argument_row, term_at, terms_of}
use Rattle.js_code.specs.Tables.{part_of}
use Rattle.js_code.specs.declared.node.ArgumentRow.{ArgumentRow}
use Rattle.js_code.specs.declared.node.ArgumentRow.TheVariants as argument
use Rattle.js_code.specs.declared.node.Node.TheVariants as node
use Rattle.js_term.specs.Layers.{ArgumentsLayer}
use Rattle.js_term.specs.declared.term.Arguments.TheVariants.{outs-Listed}
use Rattle.js_term.specs.declared.term.Term.{out-Term}
use Rattle.js_desc.specs.declared.ask.Ask.TheVariants as ask
use Rattle.js_desc.specs.declared.decision.BodyId.{BodyId}
use Rattle.js_store.specs.Objects.{object_at}
use Rattle.js_direct.specs.Direct.{GivesAtOnce, own_object}
use Rattle.js_direct.proofs.Charges.{one}
use Rattle.js_machine.specs.Closures.{closure_in, runs_closure}
use Rattle.js_machine.specs.Steps.{Deed, LeadsTo}
use Rattle.js_machine.specs.Views.{Values, View, args_on, fitting, nexts_of, party_of}
use Rattle.js_machine.specs.declared.closures.Closure.{Closure}
use Rattle.js_machine.specs.declared.frame.Frame.TheVariants as frame
use Rattle.js_machine.specs.declared.frame.Mode.{Mode}
use Rattle.js_machine.specs.js_run.Acts.{Evaluate, give, with_value}
use Rattle.js_machine.specs.js_run.Asking.{calls}
use Rattle.js_machine.specs.js_run.Calls.{calls_with}
use Rattle.js_machine.specs.js_run.Control.{all_values, values_at}
use Rattle.js_machine.specs.js_run.Runs.{Decides, answered, run_for, settle}
use Rattle.js_machine.proofs.Closed.{own_called, own_runs}
use Rattle.js_machine.proofs.Listed.{part_first, part_within}
use Rattle.js_in_place.specs.Calls.{AreListed, HasFunction, at_arguments, at_called}
use Rattle.js_in_place.specs.InPlace.{sight_of}
use Rattle.js_in_place.specs.Places.{Comes, ComesTo, IsWent, Place, at_deed, at_form, at_mode}
use Rattle.js_in_place.specs.declared.seat.Seat.{Seat}
use Rattle.js_in_place.specs.declared.seat.Went.{Went}
use Rattle.js_in_place.proofs.Parts.{list_shorter}
use Rattle.js_in_place.proofs.Placed.{all_kept, gives_under, row_done, same_place, still, then_to, then_went}

abbrev V : Type 0
V = Value Ref MadeSymbol

-- THE BODY OF A FUNCTION

-- what leads to a mode is no charge
pub led_there : (deed : Deed) (left : ℕ) (old new : View) (m : Mode) → LeadsTo deed old new m → ComesTo left old new (at_deed deed old) (at_mode m new) left
led_there deed left old new m h = same_place left old new (at_deed deed old) (at_mode m new) h.keeps (λ a. h.leads a)

-- the body of a function runs over a frame that gives on what it returns
abbrev at_body : (id : ℕ) → BodyId → Closure → Values → View → Place
at_body id b c vs w = at_deed (λ a. runs_closure (naming_of w.me) a.shared ((naming_of w.me).own id) b c value.Undefined vs None (party_of a w)) (record w { frames = frame.Given ∷ w.frames })

-- one charge of the decision leads there
body_begins : (id left : ℕ) (b : BodyId) (c : Closure) (vs : Values) (w : View) → HasFunction w.objects id b → closure_in (object_at w.objects id).slot ≡ Some c
    → ComesTo (left + 1) w (record w { frames = frame.Given ∷ w.frames }) (at_called id vs w) (at_body id b c vs w) left
body_begins id left b c vs w f e =
    let price : 1 ≡ left + 1 - left = omega arith in
    let over_it : View = record w { frames = frame.Given ∷ w.frames } in
    record {
      within = omega arith;
      comes = subst (λ k. Comes k w over_it (at_called id vs w) (at_body id b c vs w)) price (record {
        comes = λ a charges limit steps paid.
            (let d = fitting w a in
            let names = naming_of w.me in
            let p = party_of d w in
            let ks = nexts_of names d.shared w.code w.frames w.values w.waits in
            let count : 1 + charges ≡ suc charges = omega arith in
            ap (λ m. run_for names d.shared d.env m limit steps (at_called id vs w d)) count
            ∙ ap (λ x. run_for names d.shared d.env (suc charges) limit steps (settle names d.shared d.env ks (answered names d.env x))) (own_called w.me d.shared id value.Undefined vs p (with_value give) f.callable)
            ∙ one names d.shared d.env charges limit steps (Decides (own_object w.me id) (ask.Call value.Undefined vs)) p (with_value give ∷ ks) paid
            ∙ ap (λ x. run_for names d.shared d.env charges limit (steps + 1) (settle names d.shared d.env (with_value give ∷ ks) (answered names d.env x))) (own_runs w.me d.shared id value.Undefined vs p b f.home f.lexical f.there f.keeps c e));
        keeps = all_kept w;
      });
    }

-- a body is entered with so many arguments, which are on the stack of values
abbrev Entered : Ref → BodyId → Closure → ℕ → View → View → Mode → Type 0
Entered f b c n old new m = LeadsTo (λ a. runs_closure (naming_of old.me) a.shared f b c value.Undefined (args_on n old.values) None (party_of a old)) (record old { values = drop n old.values }) new m

pub entered : (id n left : ℕ) (b : BodyId) (c : Closure) (f : Ref) (old mid new : View) (m : Mode) (s : Seat) (w : Went) → f ≡ (naming_of old.me).own id → mid ≡ record old { frames = frame.Given ∷ old.frames } → Entered f b c n mid new m
    → ((x : View) → IsWent (at_mode m x) left x x s w) → HasFunction old.objects id b → closure_in (object_at old.objects id).slot ≡ Some c
    → (let low = record old { values = drop n old.values } in IsWent (at_called id (args_on n old.values) low) (left + 1) low new s w)
entered id n left b c f old mid new m s w e d h goes has keeps =
    let low = record old { values = drop n old.values } in
    let over_it = record low { frames = frame.Given ∷ low.frames } in
    let vs = args_on n old.values in
    let g = subst (λ (x : View). Entered f b c n x new m) d h in
    let g = subst (λ r. Entered r b c n (record old { frames = frame.Given ∷ old.frames }) new m) e g in
    let body : LeadsTo (λ a. runs_closure (naming_of low.me) a.shared ((naming_of low.me).own id) b c value.Undefined vs None (party_of a low)) over_it new m = record { leads = λ a. g.leads a; keeps = g.keeps } in
    then_went (left + 1) left low new new (at_called id vs low) (at_mode m new) s w
    (then_to (left + 1) left left low over_it new (at_called id vs low) (at_body id b c vs low) (at_mode m new) (body_begins id left b c vs low has keeps)
    (led_there (λ a. runs_closure (naming_of low.me) a.shared ((naming_of low.me).own id) b c value.Undefined vs None (party_of a low)) left over_it new m body))
    (goes new)

-- ARGUMENTS

abbrev go_on_with : ℕ → Values → List ℕ → View → Place
go_on_with id vs ns w = at_deed (λ a. all_values (map (term_at w.code) ns) vs (party_of a w) (λ us q. calls (naming_of w.me) a.shared (own_object w.me id) value.Undefined us q (with_value give))) w

-- the first of the other arguments is given at once
argument_given : (id at k left rest : ℕ) (v : V) (vs : Values) (ns : List ℕ) (w : View) → GivesAtOnce (sight_of w) at v k → k ≤ left → rest ≡ left - k → ComesTo left w w (go_on_with id vs (at ∷ ns) w) (go_on_with id (vs ++ v ∷ []) ns w) rest
argument_given id at k left rest v vs ns w h l e =
    gives_under at left k rest v w (λ a. with_value (λ x q. all_values (map (term_at w.code) ns) (vs ++ x ∷ []) q (λ us m. calls (naming_of w.me) a.shared (own_object w.me id) value.Undefined us m (with_value give)))) h l e

none_follow : (id left : ℕ) (vs : Values) (ns : List ℕ) (w : View) → 0 ≡ length ns → ComesTo left w w (go_on_with id vs ns w) (at_called id vs w) left
none_follow id left vs [] w e = still left w (at_called id vs w)
none_follow id left vs (n ∷ ns) w e = cc

-- so many are on the stack, and so many follow
pub record SoFar (start count there i left rest : ℕ) (old now : View) : Type 0 where
  pub is : now ≡ record old { values = now.values }
  pub below : drop i now.values ≡ old.values
  pub many : there - i ≡ length (part_of (start + i) (count - i) old.code.numbers)
  pub goes : (id : ℕ) → ComesTo left old old (at_arguments id [] start count old) (at_arguments id (args_on i now.values) (start + i) (count - i) old) rest

module _ (start count there i left rest : ℕ) (old now : View) (far : SoFar start count there i left rest old now) where
  abbrev ns : List ℕ
  ns = old.code.numbers

  -- and one more
  module _ (at k more : ℕ) (v : V) (new : View) (some : i < there) (fewer : there ≤ count) (is : at ≡ get_or now.code.numbers (start + i) 0) (gives : GivesAtOnce (sight_of now) at v k) (l : k ≤ rest) (e : more ≡ rest - k) (d : new ≡ record now { values = v ∷ now.values }) where
    first : part_of (start + i) (count - i) ns ≡ get_or ns (start + i) 0 ∷ part_of (start + (i + 1)) (count - (i + 1)) ns
    first =
        part_first ns (start + i) (count - i) (start + (i + 1)) (count - (i + 1)) (omega (arith, some, fewer)) (omega arith) (part_within ns (start + i) (count - i) (omega (arith, some, far.many)))

    here : get_or ns (start + i) 0 ≡ at
    here = ap (λ (w : View). get_or w.code.numbers (start + i) 0) (sym far.is) ∙ sym is

    there_too : GivesAtOnce (sight_of old) at v k
    there_too = subst (λ (w : View). GivesAtOnce (sight_of w) at v k) far.is gives

    given : (id : ℕ) (vs : Values) → ComesTo rest old old (at_arguments id vs (start + i) (count - i) old) (at_arguments id (vs ++ v ∷ []) (start + (i + 1)) (count - (i + 1)) old) more
    given id vs =
        let after = part_of (start + (i + 1)) (count - (i + 1)) ns in
        subst (λ xs. ComesTo rest old old (go_on_with id vs xs old) (go_on_with id (vs ++ v ∷ []) after old) more) (sym first)
        (subst (λ n. ComesTo rest old old (go_on_with id vs (n ∷ after) old) (go_on_with id (vs ++ v ∷ []) after old) more) (sym here) (argument_given id at k rest more v vs after old there_too l e))

    -- on the stack it is the newest
    next : i + 1 ≡ suc i
    next = omega arith

    pushed_last : args_on (i + 1) (v ∷ now.values) ≡ args_on i now.values ++ v ∷ []
    pushed_last = ap (λ n. args_on n (v ∷ now.values)) next ∙ reverse-cons v (take i now.values)

    values_now : new.values ≡ v ∷ now.values
    values_now = ap (λ (w : View). w.values) d

    pub one_more : SoFar start count there (i + 1) left more old new
    one_more =
        record {
          is = d ∙ (λ j. record (far.is j) { values = v ∷ now.values }) ∙ ap (λ xs. record old { values = xs }) (sym values_now);
          below = ap (drop (i + 1)) values_now ∙ ap (λ n. drop n (v ∷ now.values)) next ∙ far.below;
          many = (let less : there - (i + 1) ≡ there - i - 1 = omega arith in
              less ∙ list_shorter ns (there - i) (start + i) (count - i) (start + (i + 1)) (count - (i + 1)) far.many (omega (arith, some)) (omega (arith, some, fewer)) (omega arith) (omega (arith, some, fewer)));
          goes = λ id.
              then_to left rest more old old old (at_arguments id [] start count old) (at_arguments id (args_on i now.values) (start + i) (count - i) old) (at_arguments id (args_on (i + 1) new.values) (start + (i + 1)) (count - (i + 1)) old) (far.goes id)
              (subst (λ vs. ComesTo rest old old (at_arguments id (args_on i now.values) (start + i) (count - i) old) (at_arguments id vs (start + (i + 1)) (count - (i + 1)) old) more)
              (sym (ap (args_on (i + 1)) values_now ∙ pushed_last)) (given id (args_on i now.values)));
        }

  -- all are there
  pub all_listed : i ≡ there → AreListed start count there left rest old now
  all_listed z =
      let none : 0 ≡ length (part_of (start + i) (count - i) ns) = omega (arith, z, far.many) in
      let far_below : drop there now.values ≡ old.values = ap (λ n. drop n now.values) (sym z) ∙ far.below in
      record {
        is = far.is;
        below = far_below;
        goes = λ id.
            subst (λ n. ComesTo left old old (at_arguments id [] start count old) (at_called id (args_on n now.values) old) rest) z
            (then_to left rest rest old old old (at_arguments id [] start count old) (at_arguments id (args_on i now.values) (start + i) (count - i) old) (at_called id (args_on i now.values) old) (far.goes id)
            (none_follow id rest (args_on i now.values) (part_of (start + i) (count - i) ns) old none));
      }

-- CALLS

abbrev callee : (at : ℕ) → ArgumentRow → View → Place
callee at row w = at_deed (λ a. Evaluate (term_at w.code at) (party_of a w) (with_value (calls_with (naming_of w.me) a.shared value.Undefined (arguments_of w.code (term_at w.code) row)))) w

abbrev by_layer : (id : ℕ) → ArgumentsLayer → View → Place
by_layer id l w = at_deed (λ a. values_at (naming_of w.me) a.shared l (party_of a w) (λ us q. calls (naming_of w.me) a.shared (own_object w.me id) value.Undefined us q (with_value give))) w

function_given : (at start count id left : ℕ) (w : View) → 1 ≤ left → GivesAtOnce (sight_of w) at (own_object w.me id) 1 → ComesTo left w w (callee at (argument.Listed start count) w) (at_arguments id [] start count w) (left - 1)
function_given at start count id left w l h =
    let ts = terms_of w.code (term_at w.code) start count in
    subst (λ x. ComesTo left w w (callee at (argument.Listed start count) w) (by_layer id x w) (left - 1)) (outs-Listed ts)
    (gives_under at left 1 (left - 1) (own_object w.me id) w (λ a. with_value (calls_with (naming_of w.me) a.shared value.Undefined (arguments_of w.code (term_at w.code) (argument.Listed start count)))) h l refl)

-- the arguments of a call follow a function that is given at once
pub arguments_follow : (at callee_at arguments start count id left : ℕ) (w : View) → out-Term (term_at w.code at) ≡ layer_of w.code (term_at w.code) (node.Call callee_at arguments) → 2 ≤ left
    → get_or w.code.arguments arguments no_argument_row ≡ argument.Listed start count → GivesAtOnce (sight_of w) callee_at (own_object w.me id) 1
    → ComesTo left w w (at_form at w) (at_arguments id [] start count w) (left - 2)
arguments_follow at callee_at arguments start count id left w e l i h =
    then_to left (left - 1) (left - 2) w w w (at_form at w) (callee callee_at (get_or w.code.arguments arguments no_argument_row) w) (at_arguments id [] start count w)
    (row_done at left (left - 1) (node.Call callee_at arguments) w e (omega (arith, l)) refl)
    (subst (λ x. ComesTo (left - 1) w w (callee callee_at x w) (at_arguments id [] start count w) (left - 2)) (sym i)
    (let less : left - 1 - 1 ≡ left - 2 = omega arith in
    subst (λ k. ComesTo (left - 1) w w (callee callee_at (argument.Listed start count) w) (at_arguments id [] start count w) k) less (function_given callee_at start count id (left - 1) w (omega (arith, l)) h)))

-- one step more is left
one_left : (left rest : ℕ) (old new : View) (from to : Place) → ComesTo left old new from to rest → ComesTo (left + 1) old new from to (rest + 1)
one_left left rest old new from to h =
    let price : left - rest ≡ left + 1 - (rest + 1) = omega (arith, h.within) in
    record { within = omega (arith, h.within); comes = subst (λ k. Comes k old new from to) price h.comes }

-- the machine without the arguments stands where it stood
below_is : (start count n left rest : ℕ) (old mid : View) → AreListed start count n left rest old mid → record mid { values = drop n mid.values } ≡ old
below_is start count n left rest old mid h = (λ j. record (h.is j) { values = drop n mid.values }) ∙ ap (λ xs. record old { values = xs }) h.below

-- a function is called with arguments that are given at once
pub called : (at callee_at arguments start count id n left rest : ℕ) (b : BodyId) (c : Closure) (old mid new : View) (s : Seat) (w : Went) → out-Term (term_at old.code at) ≡ layer_of old.code (term_at old.code) (node.Call callee_at arguments) → 3 ≤ left
    → get_or old.code.arguments arguments no_argument_row ≡ argument.Listed start count → GivesAtOnce (sight_of old) callee_at (own_object old.me id) 1
    → AreListed start count n (left - 3) rest old mid → HasFunction old.objects id b → closure_in (object_at old.objects id).slot ≡ Some c
    → (HasFunction mid.objects id b → closure_in (object_at mid.objects id).slot ≡ Some c
    → (let low = record mid { values = drop n mid.values } in IsWent (at_called id (args_on n mid.values) low) (rest + 1) low new s w))
    → IsWent (at_form at old) left old new s w
called at callee_at arguments start count id n left rest b c old mid new s w e l i h ls has keeps goes =
    let place = at_called id (args_on n mid.values) in
    let has_there = subst (λ (x : View). HasFunction x.objects id b) (sym ls.is) has in
    let keeps_there = subst (λ (x : View). closure_in (object_at x.objects id).slot ≡ Some c) (sym ls.is) keeps in
    let done = subst (λ (x : View). IsWent (place x) (rest + 1) x new s w) (below_is start count n (left - 3) rest old mid ls) (goes has_there keeps_there) in
    let same : left - 3 + 1 ≡ left - 2 = omega (arith, l) in
    let given = subst (λ k. ComesTo k old old (at_arguments id [] start count old) (place old) (rest + 1)) same (one_left (left - 3) rest old old (at_arguments id [] start count old) (place old) (ls.goes id)) in
    then_went left (rest + 1) old old new (at_form at old) (place old) s w
    (then_to left (left - 2) (rest + 1) old old old (at_form at old) (at_arguments id [] start count old) (place old) (arguments_follow at callee_at arguments start count id left old e (omega (arith, l)) i h) given)
    done
