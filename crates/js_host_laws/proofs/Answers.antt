-- What the host does with an ask at one of its objects that is no Call at a function, or at an object of the common part.
use Rattle.std.proofs.Common.{◌≡◌, inl, inr, ℕ, zero, suc, List, [], ◌∷◌, length, slice_set, Bool, true, false, Option, Some, None, refl, sym, ap, ◌∙◌, subst, if◌then◌else◌, nat_lt, ltb-true}
use Rattle.lava_base.specs.declared.ids.MadeSymbol.{MadeSymbol}
use Rattle.lava_base.specs.declared.ids.Ref.{Ref}
use Rattle.js_text.specs.Naming.{Origin, Own, Common, Foreign, naming_of, origin_of}
use Rattle.js_text.specs.declared.value.Value.TheVariants as value
use Rattle.js_desc.specs.declared.ask.Ask.TheVariants as ask
use Rattle.js_store.specs.Frozen.{common_at}
use Rattle.js_store.specs.Objects.{object_at}
use Rattle.js_store.specs.declared.slot.Slot.{Slot}
use Rattle.js_store.specs.declared.slot.Slot.TheVariants as slot
use Rattle.js_ordinary.specs.Origins.{object_of, there, with_object}
use Rattle.js_ordinary.specs.OrdinarySetPrototypeOf.{is_proxy, makes_cycle}
use Rattle.js_run.specs.js_exotic.Decided.{decided, decided_there, exotic_verdict}
use Rattle.js_run.specs.js_exotic.Verdicts.{ExoticDecision}
use Rattle.js_run.specs.Decisions.{decides, decides_ask, decides_by_slot, decides_collection, follows, follows_with}
use Rattle.js_run.specs.Outside.{OutsideCall}
use Rattle.js_run.specs.Parties.{Party, Shared}
use Rattle.js_host_laws.specs.Prototypes.{HasRepairs}
use Rattle.js_host_laws.proofs.Decides.{IsAsBefore, LeavesSo, leaves_so, quietly}
use Rattle.js_host_laws.proofs.Quiet.{Asked, HostValue, IsNoCall, IsQuietDecision, IsQuietThere, IsRepair}
use Rattle.js_host_laws.proofs.Things.{HostError, HostObject, bare_at, frozen_at, host_with, things}

-- an ask at an object of the host that is no Call, or at one of the common part; none is at another party's
abbrev pub IsQuietHere : Shared → Origin → Asked → Type 0
IsQuietHere shared (Own i) x = IsNoCall x
IsQuietHere shared (Common c) x = IsQuietThere shared.objects c x
IsQuietHere shared Foreign x = ⊥

set_same : (os : List HostObject) (i : ℕ) → slice_set os i (object_at os i) ≡ os
set_same [] i = refl
set_same (o ∷ os) zero = refl
set_same (o ∷ os) (suc i) = ap (λ l. o ∷ l) (set_same os i)

stays_with : (os : List HostObject) (i : ℕ) (o : Option HostObject) → IsAsBefore (object_at os i) o → with_object os i o ≡ os
stays_with os i None h = refl
stays_with os i (Some o) h = ap (λ x. slice_set os i x) h ∙ set_same os i

module _ (shared : Shared) (repairs : HasRepairs shared.objects) (es : List HostError) (calls : List OutsideCall) (depth : ℕ) where
  abbrev host : Party Ref MadeSymbol
  host = host_with es calls depth

  abbrev Decision : Type 0
  Decision = ExoticDecision Ref MadeSymbol × List HostObject

  module _ (r : Ref) where
    abbrev decided_here : Asked → Decision
    decided_here x = decided (naming_of 0) (things es) shared.objects r x

    abbrev Follows : Slot Ref MadeSymbol → Bool → Asked → Type 0
    Follows s b x = decides_by_slot (naming_of 0) shared r s b x host ≡ follows_with (naming_of 0) shared r (decided_here x) host

    -- WHAT FOLLOWS IS WHAT THE OBJECT DECIDES

    pub plain_follows : (b : Bool) (x : Asked) → IsNoCall x → Follows slot.Plain b x
    plain_follows b ask.GetPrototypeOf h = refl
    plain_follows b (ask.SetPrototypeOf p) h = refl
    plain_follows b ask.IsExtensible h = refl
    plain_follows b ask.PreventExtensions h = refl
    plain_follows b (ask.GetOwnProperty k) h = refl
    plain_follows b (ask.DefineOwnProperty k d) h = refl
    plain_follows b (ask.HasProperty k) h = refl
    plain_follows b (ask.Get k v) h = refl
    plain_follows b (ask.Set k v q) h = refl
    plain_follows b (ask.Delete k) h = refl
    plain_follows b ask.OwnPropertyKeys h = refl
    plain_follows b (ask.Call this args) h = absurd h
    plain_follows b (ask.Construct target args) h = refl
    plain_follows b (ask.Import link path) h = refl
    plain_follows b (ask.Slot which args) h = refl
    plain_follows b (ask.Make globals modules) h = refl
    plain_follows b ask.Queue h = refl
    plain_follows b ask.Turn h = refl

    -- asked for what is inherited, or as a receiver
    receiver_follows : (s : Slot Ref MadeSymbol) → is_proxy s ≡ false → (b : Bool) (x : Asked) → ((t : Slot Ref MadeSymbol) → decides_ask (naming_of 0) shared r t b x host ≡ follows_with (naming_of 0) shared r (decided_here x) host)
        → ((l : _) → decides_collection (naming_of 0) shared r l b x host ≡ decides_ask (naming_of 0) shared r (slot.Table l) b x host) → Follows s b x
    receiver_follows slot.Plain e b x h k = h slot.Plain
    receiver_follows (slot.Closure body home lexical) e b x h k = h (slot.Closure body home lexical)
    receiver_follows (slot.Held f) e b x h k = h (slot.Held f)
    receiver_follows (slot.Bound target this args) e b x h k = h (slot.Bound target this args)
    receiver_follows (slot.Proxy p) e b x h k = absurd cc
    receiver_follows (slot.Table l) e b x h k = k l ∙ h (slot.Table l)
    receiver_follows (slot.Chamber global) e b x h k = h (slot.Chamber global)
    receiver_follows (slot.Promised p) e b x h k = h (slot.Promised p)
    receiver_follows (slot.Namespace scope exports) e b x h k = h (slot.Namespace scope exports)

    called_follows : (s : Slot Ref MadeSymbol) (b : Bool) (this : HostValue) (args : List HostValue) → IsRepair s → Follows s b (ask.Call this args)
    called_follows s b this args (inl h) = subst (λ t. Follows t b (ask.Call this args)) (sym h.1) refl
    called_follows s b this args (inr h) = subst (λ t. Follows t b (ask.Call this args)) (sym h.2) refl

    common_follows : (c : ℕ) (b : Bool) (x : Asked) → IsQuietThere shared.objects c x → Follows (common_at shared.objects c).slot b x
    common_follows c b (ask.Get k v) h = receiver_follows (common_at shared.objects c).slot (repairs.proxies c) b (ask.Get k v) (λ t. refl) (λ l. refl)
    common_follows c b (ask.Set k v q) h = receiver_follows (common_at shared.objects c).slot (repairs.proxies c) b (ask.Set k v q) (λ t. refl) (λ l. refl)
    common_follows c b (ask.HasProperty k) h = receiver_follows (common_at shared.objects c).slot (repairs.proxies c) b (ask.HasProperty k) (λ t. refl) (λ l. refl)
    common_follows c b (ask.GetOwnProperty k) h = receiver_follows (common_at shared.objects c).slot (repairs.proxies c) b (ask.GetOwnProperty k) (λ t. refl) (λ l. refl)
    common_follows c b (ask.DefineOwnProperty k d) h = receiver_follows (common_at shared.objects c).slot (repairs.proxies c) b (ask.DefineOwnProperty k d) (λ t. refl) (λ l. refl)
    common_follows c b (ask.Call this args) h = called_follows (common_at shared.objects c).slot b this args h
    common_follows c b ask.GetPrototypeOf h = absurd h
    common_follows c b (ask.SetPrototypeOf p) h = absurd h
    common_follows c b ask.IsExtensible h = absurd h
    common_follows c b ask.PreventExtensions h = absurd h
    common_follows c b (ask.Delete k) h = absurd h
    common_follows c b ask.OwnPropertyKeys h = absurd h
    common_follows c b (ask.Construct target args) h = absurd h
    common_follows c b (ask.Import link path) h = absurd h
    common_follows c b (ask.Slot which args) h = absurd h
    common_follows c b (ask.Make globals modules) h = absurd h
    common_follows c b ask.Queue h = absurd h
    common_follows c b ask.Turn h = absurd h

    -- WHAT IT DECIDES IS QUIET, AND NOTHING CHANGES

    abbrev DecidesSo : Decision → Type 0
    DecidesSo d = IsQuietDecision shared.objects d.0 × (d.1 ≡ things es)

    own_decided : (i : ℕ) (x : Asked) (b : Bool) → nat_lt i (length (things es)) ≡ b → DecidesSo (decided_there (naming_of 0) (things es) shared.objects r x (if b then Some (Own i) else None))
    own_decided i x false e = (tt, refl)
    own_decided i x true e =
        let o = object_at (things es) i in
        let cycle = makes_cycle (naming_of 0) (things es) (Own i) in
        let v = exotic_verdict (naming_of 0) cycle r o x in
        let h : LeavesSo shared.objects o v = leaves_so shared.objects o (frozen_at es i (ltb-true i (length (things es)) e)) cycle r x in
        (h.0, stays_with (things es) i v.1 h.1)

    common_decided : (c : ℕ) (x : Asked) (b : Bool) → IsQuietThere shared.objects c x → DecidesSo (decided_there (naming_of 0) (things es) shared.objects r x (if b then Some (Common c) else None))
    common_decided c x false h = (tt, refl)
    common_decided c x true h = (quietly shared.objects repairs c (makes_cycle (naming_of 0) (things es) (Common c)) r x h, refl)

    -- a decision that is quiet, and what follows it
    pub record Answers (x : Asked) : Type 0 where
      pub decision : ExoticDecision Ref MadeSymbol
      pub quiet : IsQuietDecision shared.objects decision
      pub is : decides (naming_of 0) shared (value.Ref r) x host ≡ follows (naming_of 0) shared r decision host

    answers_by : (at : Origin) (x : Asked) → origin_of 0 r ≡ at
        → (let o = object_of (naming_of 0).common (things es) shared.objects at in Follows o.slot o.marks.callable x)
        → DecidesSo (decided_there (naming_of 0) (things es) shared.objects r x (there (things es) shared.objects at)) → Answers x
    answers_by at x e f d =
        let here : Decision = decided_there (naming_of 0) (things es) shared.objects r x (there (things es) shared.objects at) in
        let is : decided_here x ≡ here = ap (λ a. decided_there (naming_of 0) (things es) shared.objects r x (there (things es) shared.objects a)) e in
        let same : here ≡ (here.0, things es) = ap (λ os. (here.0, os)) d.1 in
        record {
          decision = here.0;
          quiet = d.0;
          is = ap (λ a. let o = object_of (naming_of 0).common (things es) shared.objects a in decides_by_slot (naming_of 0) shared r o.slot o.marks.callable x host) e
              ∙ f
              ∙ ap (λ (y : Decision). follows_with (naming_of 0) shared r y host) (is ∙ same);
        }

    pub answers : (at : Origin) (x : Asked) → origin_of 0 r ≡ at → IsQuietHere shared at x → Answers x
    answers (Own i) x e h =
        let o = object_at (things es) i in
        answers_by (Own i) x e (subst (λ s. Follows s o.marks.callable x) (sym (bare_at es i)) (plain_follows o.marks.callable x h)) (own_decided i x (nat_lt i (length (things es))) refl)
    answers (Common c) x e h = answers_by (Common c) x e (common_follows c (common_at shared.objects c).marks.callable x h) (common_decided c x (nat_lt c (length shared.objects)) h)
    answers Foreign x e h = absurd h

    -- a Call at an object that is not callable
    pub not_callable : (i : ℕ) (this : HostValue) (args : List HostValue) → origin_of 0 r ≡ Own i → (object_at (things es) i).marks.callable ≡ false → Answers (ask.Call this args)
    not_callable i this args e c =
        let o = object_at (things es) i in
        answers_by (Own i) (ask.Call this args) e
        (subst (λ s. Follows s o.marks.callable (ask.Call this args)) (sym (bare_at es i)) (subst (λ b. Follows slot.Plain b (ask.Call this args)) (sym c) refl))
        (own_decided i (ask.Call this args) (nat_lt i (length (things es))) refl)
