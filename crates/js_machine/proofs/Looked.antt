-- What is seen of objects, and where asks go.
use Rattle.std.proofs.Common.{◌≡◌, ℕ, ◌≤◌, List, length, Some, None, refl, sym, ap}
use Rattle.std.proofs.lemmas.List.{get_or_past}
use Rattle.lava_base.specs.declared.ids.MadeSymbol.{MadeSymbol}
use Rattle.lava_base.specs.declared.ids.Ref.{Ref}
use Rattle.lava_base.specs.declared.marks.Marks.{Marks}
use Rattle.js_text.specs.Naming.{Naming, Origin, Own, Common, Foreign, naming_of}
use Rattle.js_text.specs.declared.value.Value.{Value}
use Rattle.js_text.specs.declared.value.Value.TheVariants as value
use Rattle.js_desc.specs.declared.ask.Ask.{Ask}
use Rattle.js_operation.specs.js_run.Acts.{Act, Next}
use Rattle.js_operation.specs.js_run.Asking.{see_marks, see_there}
use Rattle.js_operation.specs.js_run.Parties.{Party}
use Rattle.js_operation.specs.js_run.Runs.{Asks, Decides, Due, Sends, answered, marks_there}
use Rattle.js_store.specs.Objects.{Object, fresh, object_at, plain_marks}
use Rattle.js_store.specs.declared.slot.Slot.TheVariants as slot
use Rattle.js_machine.specs.Looks.{foreign_at, foreign_in, marks_at, marks_in}
use Rattle.js_machine.specs.Steps.{asked_at, asked_there}
use Rattle.js_machine.specs.Views.{Around, View, fitting, party_of}

by_origin : (o : Origin) (r : Ref) (w : View) (a : Around) (go : Marks → Act Ref MadeSymbol) → (naming_of w.me).origin r ≡ o
    → (let b = fitting w a in answered (naming_of w.me) b.env (see_there (naming_of w.me) b.shared o r (party_of b w) go) ≡ answered (naming_of w.me) b.env (go (marks_at w r o)))
by_origin (Own i) r w a go e = refl
by_origin (Common c) r w a go e = refl
by_origin Foreign r w a go e = ap (λ o. answered (naming_of w.me) (fitting w a).env (go (marks_there (fitting w a).env.marks r o))) e

-- a look at marks is answered by what the machine knows
pub looked : (r : Ref) (w : View) (a : Around) (go : Marks → Act Ref MadeSymbol)
    → (let b = fitting w a in answered (naming_of w.me) b.env (see_marks (naming_of w.me) b.shared r (party_of b w) go) ≡ answered (naming_of w.me) b.env (go (marks_in w r)))
looked r w a go = by_origin ((naming_of w.me).origin r) r w a go refl

pub past_marks : {R S : Type 0} (os : List (Object R S)) (i : ℕ) → length os ≤ i → plain_marks ≡ (object_at os i).marks
past_marks {R} {S} os i l = ap (λ (o : Object R S). o.marks) (sym (get_or_past os i (fresh None plain_marks slot.Plain) l))

-- WHERE AN ASK GOES

decided_there : (o : Origin) (r : Ref) (x : Ask Ref MadeSymbol) (p : Party Ref MadeSymbol) (ks : List (Next Ref MadeSymbol)) → foreign_at r o ≡ None → asked_there o r x p ks ≡ Due 0 (Decides (value.Ref r) x) p ks
decided_there (Own i) r x p ks e = refl
decided_there (Common c) r x p ks e = refl
decided_there Foreign r x p ks e = cc

-- an ask at what is no foreign object waits for its step
pub decided_here : (names : Naming Ref MadeSymbol) (v : Value Ref MadeSymbol) (x : Ask Ref MadeSymbol) (p : Party Ref MadeSymbol) (ks : List (Next Ref MadeSymbol)) → foreign_in names v ≡ None → asked_at names v x p ks ≡ Due 0 (Decides v x) p ks
decided_here names (value.Ref r) x p ks e = decided_there (names.origin r) r x p ks e
decided_here names v x p ks e = refl

sent_there : (o : Origin) (r s : Ref) (x : Ask Ref MadeSymbol) (p : Party Ref MadeSymbol) (ks : List (Next Ref MadeSymbol)) → foreign_at r o ≡ Some s → asked_there o r x p ks ≡ Sends (Asks s x) p ks
sent_there (Own i) r s x p ks e = cc
sent_there (Common c) r s x p ks e = cc
sent_there Foreign r s x p ks e = cc

-- an ask at a foreign object is sent
pub sent_away : (names : Naming Ref MadeSymbol) (v : Value Ref MadeSymbol) (s : Ref) (x : Ask Ref MadeSymbol) (p : Party Ref MadeSymbol) (ks : List (Next Ref MadeSymbol)) → foreign_in names v ≡ Some s → asked_at names v x p ks ≡ Sends (Asks s x) p ks
sent_away names (value.Ref r) s x p ks e = sent_there (names.origin r) r s x p ks e
sent_away names v s x p ks e = cc
