-- Completions that are handed on, and what is charged for.
use Rattle.std.proofs.Common.{◌≡◌, ℕ, true, List, [], ◌∷◌, drop, length, reverse, Option, Some, None, refl, sym, ap, ◌∙◌, subst, arith, Result, Ok, Err, IfOk}
use Rattle.std.proofs.lemmas.List.{length-reverse}
use Rattle.lava_base.specs.declared.ids.Ref.{Ref}
use Rattle.js_text.specs.Naming.{naming_of}
use Rattle.js_text.specs.declared.value.Value.TheVariants as value
use Rattle.js_machine.specs.js_run.Acts.{give}
use Rattle.js_machine.specs.Looks.{foreign_in}
use Rattle.js_machine.specs.Steps.{IsBegun, IsDecided, IsDelivered, LeadsTo, point_of}
use Rattle.js_machine.specs.Stops.{IsWorked, Stays, worked}
use Rattle.js_machine.specs.Views.{Around, View, fitting, is_due, newest, nexts_of, party_of}
use Rattle.js_machine.specs.declared.frame.Frame.{Frame}
use Rattle.js_machine.specs.declared.frame.Mode.{Mode}
use Rattle.js_machine.specs.declared.frame.Mode.TheVariants as mode
use Rattle.js_machine.proofs.Looked.{decided_here, sent_away}
use Rattle.js_in_place.proofs.Gone.{fits, keeps_on}
use Rattle.js_in_place.proofs.Newest.{first_back}

-- A FRAME IS TAKEN OFF

none_back : (fs : List Frame) → newest fs ≡ None → drop 1 fs ≡ fs
none_back [] e = refl
none_back (f ∷ fs) e = cc

pub handed : {E : Type 0} (r : Result Mode E) (o : Option Frame) (f : Frame) (m : Mode) (old low new : View) → o ≡ newest old.frames → o ≡ Some f → low ≡ record old { frames = drop 1 old.frames } → IfOk r (IsDelivered f m low new) → IfOk r (Stays m old new)
handed (Ok k) o f m old low new e s d h =
    let back : record low { frames = f ∷ low.frames } ≡ old = (λ j. record (d j) { frames = f ∷ (d j).frames }) ∙ ap (λ fs. record old { frames = fs }) (sym (first_back f old.frames (sym e ∙ s))) in
    subst (λ w. Stays m w new k) back (record { stands = λ a. h.stands a; keeps = h.keeps })
handed (Err x) o f m old low new e s d h = tt

pub none_handed : (o : Option Frame) (m : Mode) (old new : View) → o ≡ newest old.frames → o ≡ None → new ≡ record old { frames = drop 1 old.frames } → Stays m old new m
none_handed o m old new e n d = subst (λ w. Stays m old w m) (sym (d ∙ ap (λ fs. record old { frames = fs }) (none_back old.frames (sym e ∙ n)))) (record { stands = λ a. refl; keeps = (refl, (refl, (refl, (refl, refl)))) })

pub stays_so : (m : Mode) (old : View) → Stays m old old m
stays_so m old = record { stands = λ a. refl; keeps = (refl, (refl, (refl, (refl, refl)))) }

pub stays_further : (m n k : Mode) (old mid new : View) → Stays m old mid n → Stays n mid new k → Stays m old new k
stays_further m n k old mid new g h =
    record { stands = λ a. subst (λ b. point_of b new k ≡ point_of b mid n) (fits old mid a g.keeps) (h.stands a) ∙ g.stands a; keeps = keeps_on old mid new g.keeps h.keeps }

none_reversed : {A : Type 0} (xs : List A) → length xs ≡ 0 → xs ≡ []
none_reversed [] e = refl
none_reversed (x ∷ xs) e = absurd (omega (arith, e))

pub no_frames : {A : Type 0} (xs : List A) → length xs ≡ 0 → reverse xs ≡ []
no_frames xs e = none_reversed (reverse xs) (length-reverse xs ∙ e)

-- a form that was charged for is begun
pub begun_works : {E : Type 0} (r : Result Mode E) (at : ℕ) (m : Mode) (old new : View) → m ≡ mode.Eval at → IfOk r (IsBegun at old new) → IfOk r (IsWorked m old new)
begun_works (Ok k) at m old new d h = subst (λ x. IsWorked x old new k) (sym d) (record { stands = λ a. h.leads.leads a; keeps = h.leads.keeps })
begun_works (Err x) at m old new d h = tt

-- an ask that was charged for is decided
pub decided_works : {E : Type 0} (r : Result Mode E) (m : Mode) (o : Option Ref) (old new : View) → m ≡ mode.Ask → o ≡ foreign_in (naming_of old.me) old.asked.target → o ≡ None → IfOk r (IsDecided old new) → IfOk r (IsWorked m old new)
decided_works (Ok k) m o old new d e f h =
    subst (λ x. IsWorked x old new k) (sym d) (record {
      stands = λ a. (let b = fitting old a in
          h.leads.leads a
          ∙ ap (worked (naming_of old.me) b.shared b.env) (sym (decided_here (naming_of old.me) old.asked.target old.asked.ask (party_of b old) (nexts_of (naming_of old.me) b.shared old.code old.frames old.values old.waits) (sym e ∙ f))));
      keeps = h.leads.keeps;
    })
decided_works (Err x) m o old new d e f h = tt

-- an ask that is sent stays
pub sent_works : (m : Mode) (o : Option Ref) (r : Ref) (old : View) → m ≡ mode.Ask → o ≡ foreign_in (naming_of old.me) old.asked.target → o ≡ Some r → IsWorked m old old m
sent_works m o r old d e f =
    subst (λ x. IsWorked x old old x) (sym d) (record {
      stands = λ a. (let b = fitting old a in
          let there = sent_away (naming_of old.me) old.asked.target r old.asked.ask (party_of b old) (nexts_of (naming_of old.me) b.shared old.code old.frames old.values old.waits) (sym e ∙ f) in
          there ∙ ap (worked (naming_of old.me) b.shared b.env) (sym there));
      keeps = (refl, (refl, (refl, (refl, refl))));
    })

-- what was paid for gives undefined
pub paid_works : {E : Type 0} (r : Result Mode E) (m : Mode) (old new : View) → is_due m ≡ true → IfOk r (LeadsTo (λ a. give value.Undefined (party_of a old)) old new) → IfOk r (IsWorked m old new)
paid_works (Ok k) (mode.Pay n) old new d h = record { stands = λ a. h.leads a; keeps = h.keeps }
paid_works (Ok k) (mode.Eval at) old new d h = cc
paid_works (Ok k) mode.Ask old new d h = cc
paid_works (Ok k) mode.Answer old new d h = cc
paid_works (Ok k) mode.Value old new d h = cc
paid_works (Ok k) mode.Throw old new d h = cc
paid_works (Ok k) mode.Return old new d h = cc
paid_works (Ok k) (mode.Break l) old new d h = cc
paid_works (Ok k) (mode.Continue l) old new d h = cc
paid_works (Ok k) (mode.End h') old new d h = cc
paid_works (Ok k) (mode.Serve n) old new d h = cc
paid_works (Ok k) mode.Import old new d h = cc
paid_works (Ok k) mode.Outside old new d h = cc
paid_works (Err x) m old new d h = tt

-- an ask that came from another party is decided
pub served_works : {E : Type 0} (r : Result Mode E) (n : ℕ) (m : Mode) (old new : View) → m ≡ mode.Serve n → IfOk r (IsDecided old new) → IfOk r (IsWorked m old new)
served_works (Ok k) n m old new d h = subst (λ x. IsWorked x old new k) (sym d) (record { stands = λ a. h.leads.leads a; keeps = h.leads.keeps })
served_works (Err x) n m old new d h = tt
