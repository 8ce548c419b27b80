-- Forms that append an element to an array at once.
use Rattle.std.proofs.Common.{◌≡◌, ℕ, suc, ◌+◌, ◌<◌, Bool, true, false, not, ◌&&◌, nat_lt, nat_le, List, ◌∷◌, length, Option, Some, None, IfSome, pos, sym, refl, ap, ◌∙◌, subst, arith, lt-ltb, slice_set, if◌then◌else◌}
use Rattle.std.proofs.lemmas.Bool.Decides.{nat_tests}
use Rattle.std.proofs.lemmas.List.{get_or-set_same, set-set}
use Rattle.std.specs.Option.{option_map}
use Rattle.lava_base.specs.Ids.{same_made_symbol}
use Rattle.lava_base.specs.declared.ids.MadeSymbol.{MadeSymbol}
use Rattle.lava_base.specs.declared.ids.Ref.{Ref}
use Rattle.lava_base.specs.declared.ids.Ref.TheVariants as reference
use Rattle.js_text.specs.Length.{length_key}
use Rattle.js_text.specs.Naming.{Common, Own, naming_of}
use Rattle.js_text.specs.declared.value.Key.{Key}
use Rattle.js_text.specs.declared.value.Key.TheVariants as key
use Rattle.js_text.specs.declared.value.Value.TheVariants as value
use Rattle.js_desc.specs.Validate.{validate_and_apply_property_descriptor}
use Rattle.js_desc.specs.declared.ask.Ask.{Ask}
use Rattle.js_desc.specs.declared.ask.Ask.TheVariants as ask
use Rattle.js_desc.specs.declared.descriptor.Change.TheVariants as change
use Rattle.js_desc.specs.declared.descriptor.Descriptor.{Descriptor}
use Rattle.js_desc.specs.declared.descriptor.Descriptor.TheVariants.{Data}
use Rattle.js_desc.specs.declared.reply.Reply.TheVariants as reply
use Rattle.js_code.specs.Decoded.{term_at}
use Rattle.js_code.specs.declared.node.Node.{Node}
use Rattle.js_code.specs.declared.node.Node.TheVariants as node
use Rattle.js_store.specs.Frozen.{CommonObject, common_at, common_ref}
use Rattle.js_store.specs.Objects.{Object, at_place, object_at, with_change, with_replaced}
use Rattle.js_ordinary.specs.OrdinarySet.{open_data, ordinary_set_with_own_descriptor, set_inherited}
use Rattle.js_ordinary.specs.declared.next.Next.TheVariants as wait
use Rattle.js_operation.specs.Deeds.{MachineParty}
use Rattle.js_operation.specs.Operating.{MachineValue}
use Rattle.js_operation.specs.js_exotic.ArrayDefineOwnProperty.{change_at, define_by_class, define_element_by, define_own_property, element_appended, element_defined}
use Rattle.js_operation.specs.js_exotic.ArrayLengths.{array_length_of}
use Rattle.js_operation.specs.js_exotic.Decided.{decided_there}
use Rattle.js_operation.specs.js_exotic.Verdicts.{ExoticVerdict, as_exotic, exotic_carried_out, stays, truth}
use Rattle.js_operation.specs.js_exotic.declared.array_length.ArrayLength.{ArrayLength}
use Rattle.js_operation.specs.js_exotic.declared.array_length.TheConstants.{LENGTH_LIMIT}
use Rattle.js_operation.specs.js_exotic.declared.next.Next.TheVariants as next
use Rattle.js_operation.specs.js_run.Acts as acts
use Rattle.js_operation.specs.js_run.Acts.{Act, Closes, Decide, Decides_on, Give, Next, asks, with_value}
use Rattle.js_operation.specs.js_run.Asking.{waits_for}
use Rattle.js_operation.specs.js_run.Completions as halt
use Rattle.js_operation.specs.js_run.Completions.{Replied}
use Rattle.js_operation.specs.js_run.Decisions.{decides, follows_with, goes_on}
use Rattle.js_operation.specs.js_run.Parties.{Shared, deeper}
use Rattle.js_operation.specs.js_run.Properties.{has_set, put_property}
use Rattle.js_operation.specs.js_run.Rows.{put_key, put_object}
use Rattle.js_operation.specs.js_run.Runs.{Begins, Charged, Decides, Due, Env, Gives, answered, charge, run_for, settle}
use Rattle.js_operation.specs.js_run.declared.TheConstants.{MAX_DEPTH}
use Rattle.js_direct.specs.Appends.{AppendsAtOnce, HasRoom, IsAppendRow, IsAppended, LacksOwn, with_element}
use Rattle.js_direct.specs.Direct.{GivesAtOnce, IsDirect, Sight, own_object, value_of}
use Rattle.js_direct.specs.Puts.{IsPutRow, NamesAtOnce}
use Rattle.js_direct.specs.declared.direct.Direct.{Direct}
use Rattle.js_direct.specs.declared.plain.Plain.{Plain}
use Rattle.js_direct.proofs.Charges.{one, part}
use Rattle.js_direct.proofs.Given.{IsRow, begun, own_asked}
use Rattle.js_direct.proofs.Put.{by_slot, closed, own_decided, puts, waits}

-- WHAT AN ARRAY MAKES OF A NEW ELEMENT

module _ (me : ℕ) (r : Ref) (objects : List (Object Ref MadeSymbol)) (common : List CommonObject) (id n : ℕ) (v : MachineValue) (e c : Bool) (room : HasRoom objects common id n e c) where
  abbrev it : Object Ref MadeSymbol
  it = object_at objects id

  abbrev element : Descriptor Ref MadeSymbol
  element = Data v true true true

  abbrev end : Descriptor Ref MadeSymbol
  end = Data (value.Int (pos n)) true e c

  abbrev ends : ArrayLength
  ends = record { count = n; writable = true; enumerable = e; configurable = c }

  abbrev verdict : Object Ref MadeSymbol → ExoticVerdict Ref MadeSymbol
  verdict o = (truth true, Some o)

  -- the length says so
  length_says : array_length_of (Some end) ≡ Some ends
  length_says = ap (λ b. option_map (λ m. record { count = m; writable = true; enumerable = e; configurable = c }) (if b then Some n else None)) (lt-ltb n LENGTH_LIMIT room.within)

  -- the rule takes it
  taken : change_at (naming_of me) it (key.Index n) (open_data v) ≡ Some (change.Write element)
  taken = (λ i. validate_and_apply_property_descriptor (naming_of me).same (naming_of me).same_symbol (room.absent i) (room.is.grows i) (open_data v))

  by_tests : (past below : Bool) → below ≡ false
      → (if past && not true then stays (truth false) else verdict (if below then with_change same_made_symbol (key.Index n) (change.Write element) it else element_appended (naming_of me) n (change.Write element) ends it))
      ≡ verdict (with_element n v e c it)
  by_tests true below h = ap (λ b. verdict (if b then with_change same_made_symbol (key.Index n) (change.Write element) it else element_appended (naming_of me) n (change.Write element) ends it)) h
  by_tests false below h = ap (λ b. verdict (if b then with_change same_made_symbol (key.Index n) (change.Write element) it else element_appended (naming_of me) n (change.Write element) ends it)) h

  pub element_defined_there : define_own_property (naming_of me) r it (key.Index n) (open_data v) ≡ verdict (with_element n v e c it)
  element_defined_there =
      let not_below : nat_lt n n ≡ false = grind (arith, nat_tests) in
      ap (define_by_class (naming_of me) r it (key.Index n) (open_data v)) room.is.array
      ∙ ap (λ x. define_element_by (naming_of me) it n (open_data v) (array_length_of x)) room.length_is
      ∙ ap (define_element_by (naming_of me) it n (open_data v)) length_says
      ∙ ap (λ x. if nat_le n n && not true then stays (truth false) else element_defined (naming_of me) it n ends x) taken
      ∙ by_tests (nat_le n n) (nat_lt n n) not_below

-- DECISIONS

module _ (me : ℕ) (shared : Shared) where
  -- an object of the common part that is no proxy decides by the table, if it is asked for nothing that a function or a collection answers
  set_decided : (id : ℕ) (k : Key MadeSymbol) (v receiver : MachineValue) (p : MachineParty) → LacksOwn shared.objects id k
      → decides (naming_of me) shared (value.Ref (common_ref id)) (ask.Set k v receiver) p
      ≡ follows_with (naming_of me) shared (common_ref id) (as_exotic (set_inherited k v receiver (common_at shared.objects id).prototype), p.objects) p
  set_decided id k v receiver p lacks =
      let names = naming_of me in
      let r = common_ref id in
      let o = common_at shared.objects id in
      by_slot me shared r (ask.Set k v receiver) o.marks.callable p (λ t. refl) (λ es. refl) o.slot lacks.decides
      ∙ ap (λ d. follows_with names shared r d p) (
      ap (λ b. decided_there names p.objects shared.objects r (ask.Set k v receiver) (if b then Some (Common id) else None)) (lt-ltb id (length shared.objects) lacks.there)
      ∙ ap (λ x. (as_exotic (ordinary_set_with_own_descriptor k v receiver o.prototype x), p.objects)) lacks.absent)

  -- an object of the common part that is asked is open meanwhile
  common_waits : (id : ℕ) (x : Ask Ref MadeSymbol) (n : Next Ref MadeSymbol) (p : MachineParty) → p.depth < MAX_DEPTH → waits_for (naming_of me) (common_ref id) x p n ≡ Decide (value.Ref (common_ref id)) x (deeper p) (Closes n)
  common_waits id x n p h = ap (λ b. if b then asks (naming_of me) (common_ref id) x (deeper p) (Closes n) else acts.End halt.Depth) (lt-ltb p.depth MAX_DEPTH h)

  module _ (id n : ℕ) (v : MachineValue) (e c : Bool) where
    abbrev array_at : Ref
    array_at = reference.Own (record { 0 = me }) (record { 0 = id })

    abbrev sets : Ask Ref MadeSymbol
    sets = ask.Set (key.Index n) v (own_object me id)

    abbrev told : Ref → Next Ref MadeSymbol
    told r = Decides_on r (next.Ordinary (wait.Receiver (key.Index n) v array_at))

    abbrev answers : Ref → Next Ref MadeSymbol
    answers r = Decides_on r (next.Ordinary wait.Answer)

    abbrev appended : MachineParty → MachineParty
    appended p = record p { objects = at_place p.objects id (with_element n v e c) }

    -- an object that has no such property decides by its prototype
    abbrev Inherits : Ref → Option Ref → MachineParty → Type 0
    Inherits r prototype p = decides (naming_of me) shared (value.Ref r) sets p ≡ follows_with (naming_of me) shared r (as_exotic (set_inherited (key.Index n) v (own_object me id) prototype), p.objects) p

    -- a Set of an object, from which so many objects more are asked, appends the element
    abbrev Appends : Ref → ℕ → MachineParty → Type 0
    Appends r more p = (env : Env Ref) (ks : List (Next Ref MadeSymbol)) (charges limit steps : ℕ)
        → p.depth + more < MAX_DEPTH → charge p.meter steps limit (3 + more) ≡ Charged
        → run_for (naming_of me) shared env (3 + more + charges) limit steps (Due 0 (Decides (value.Ref r) sets) p ks)
        ≡ run_for (naming_of me) shared env charges limit (steps + (3 + more)) (settle (naming_of me) shared env ks (Gives (Replied (reply.Flag true)) (appended p)))

    module _ (p : MachineParty) (room : HasRoom p.objects shared.objects id n e c) where
      -- the array has no such property
      array_sets : Inherits array_at (object_at p.objects id).prototype p
      array_sets =
          own_decided me shared id sets p room.there room.is.decides (λ callable t. refl) (λ callable es. refl)
          ∙ ap (λ x. follows_with (naming_of me) shared array_at (as_exotic (ordinary_set_with_own_descriptor (key.Index n) v (own_object me id) (object_at p.objects id).prototype x), p.objects) p) room.absent

      array_tells : decides (naming_of me) shared (own_object me id) (ask.GetOwnProperty (key.Index n)) p ≡ Give (Replied (reply.Desc None)) p
      array_tells =
          own_decided me shared id (ask.GetOwnProperty (key.Index n)) p room.there room.is.decides (λ callable t. refl) (λ callable es. refl)
          ∙ ap (λ x. Give (Replied (reply.Desc x)) p) room.absent

      -- and makes it
      array_defines : decides (naming_of me) shared (own_object me id) (ask.DefineOwnProperty (key.Index n) (open_data v)) p ≡ Give (Replied (reply.Flag true)) (appended p)
      array_defines =
          own_decided me shared id (ask.DefineOwnProperty (key.Index n) (open_data v)) p room.there room.is.decides (λ callable t. refl) (λ callable es. refl)
          ∙ ap (λ d. follows_with (naming_of me) shared array_at (exotic_carried_out p.objects (Own id) d) p) (element_defined_there me array_at p.objects shared.objects id n v e c room)

    -- the last object asks the array for its own property, and then to make it
    last_sets : (r : Ref) (p : MachineParty) → HasRoom p.objects shared.objects id n e c → Inherits r None p → Appends r 0 p
    last_sets r p room inherits env ks charges limit steps h a =
        let names = naming_of me in
        let o = own_object me id in
        let has_told : Next Ref MadeSymbol = told r in
        let has_defined : Next Ref MadeSymbol = answers r in
        let shallow : p.depth < MAX_DEPTH = omega (arith, h) in
        let one_left : charge p.meter steps limit 1 ≡ Charged = part p.meter steps steps limit 1 3 (omega arith) a in
        let two_left : charge p.meter (steps + 1) limit 1 ≡ Charged = part p.meter steps (steps + 1) limit 1 3 (omega arith) a in
        let all_left : charge p.meter (steps + 1 + 1) limit 1 ≡ Charged = part p.meter steps (steps + 1 + 1) limit 1 3 (omega arith) a in
        let paid : steps + 1 + 1 + 1 ≡ steps + 3 = omega arith in
        let count : 3 + 0 + charges ≡ suc (suc (suc charges)) = omega arith in
        ap (λ m. run_for names shared env m limit steps (Due 0 (Decides (value.Ref r) sets) p ks)) count
        ∙ one names shared env (suc (suc charges)) limit steps (Decides (value.Ref r) sets) p ks one_left
        ∙ ap (λ act. run_for names shared env (suc (suc charges)) limit (steps + 1) (settle names shared env ks (answered names env act))) (inherits ∙ waits me shared id (ask.GetOwnProperty (key.Index n)) has_told p shallow)
        ∙ one names shared env (suc charges) limit (steps + 1) (Decides o (ask.GetOwnProperty (key.Index n))) (deeper p) (Closes has_told ∷ ks) two_left
        ∙ ap (λ act. run_for names shared env (suc charges) limit (steps + 1 + 1) (settle names shared env (Closes has_told ∷ ks) (answered names env act))) (array_tells (deeper p) room)
        ∙ ap (λ q. run_for names shared env (suc charges) limit (steps + 1 + 1) (settle names shared env ks (answered names env (goes_on names shared r (next.Ordinary (wait.Receiver (key.Index n) v array_at)) (reply.Desc None) q)))) (closed p)
        ∙ ap (λ act. run_for names shared env (suc charges) limit (steps + 1 + 1) (settle names shared env ks (answered names env act))) (waits me shared id (ask.DefineOwnProperty (key.Index n) (open_data v)) has_defined p shallow)
        ∙ one names shared env charges limit (steps + 1 + 1) (Decides o (ask.DefineOwnProperty (key.Index n) (open_data v))) (deeper p) (Closes has_defined ∷ ks) all_left
        ∙ ap (λ act. run_for names shared env charges limit (steps + 1 + 1 + 1) (settle names shared env (Closes has_defined ∷ ks) (answered names env act))) (array_defines (deeper p) room)
        ∙ ap (λ q. run_for names shared env charges limit (steps + 1 + 1 + 1) (settle names shared env ks (Gives (Replied (reply.Flag true)) q))) (closed (appended p))
        ∙ ap (λ m. run_for names shared env charges limit m (settle names shared env ks (Gives (Replied (reply.Flag true)) (appended p)))) paid

    -- any other one asks its prototype
    next_sets : (r : Ref) (above more : ℕ) (p : MachineParty) → Inherits r (Some (common_ref above)) p → Appends (common_ref above) more (deeper p) → Appends r (suc more) p
    next_sets r above more p inherits rest env ks charges limit steps h a =
        let names = naming_of me in
        let has_answer : Next Ref MadeSymbol = answers r in
        let shallow : p.depth < MAX_DEPTH = omega (arith, h) in
        let deep : suc p.depth + more < MAX_DEPTH = omega (arith, h) in
        let one_left : charge p.meter steps limit 1 ≡ Charged = part p.meter steps steps limit 1 (3 + suc more) (omega arith) a in
        let all_left : charge p.meter (steps + 1) limit (3 + more) ≡ Charged = part p.meter steps (steps + 1) limit (3 + more) (3 + suc more) (omega arith) a in
        let paid : steps + 1 + (3 + more) ≡ steps + (3 + suc more) = omega arith in
        let count : 3 + suc more + charges ≡ suc (3 + more + charges) = omega arith in
        ap (λ m. run_for names shared env m limit steps (Due 0 (Decides (value.Ref r) sets) p ks)) count
        ∙ one names shared env (3 + more + charges) limit steps (Decides (value.Ref r) sets) p ks one_left
        ∙ ap (λ act. run_for names shared env (3 + more + charges) limit (steps + 1) (settle names shared env ks (answered names env act))) (inherits ∙ common_waits above sets has_answer p shallow)
        ∙ rest env (Closes has_answer ∷ ks) charges limit (steps + 1) deep all_left
        ∙ ap (λ q. run_for names shared env charges limit (steps + 1 + (3 + more)) (settle names shared env ks (Gives (Replied (reply.Flag true)) q))) (closed (appended p))
        ∙ ap (λ m. run_for names shared env charges limit m (settle names shared env ks (Gives (Replied (reply.Flag true)) (appended p)))) paid

    -- the five decisions of a Set
    pub element_set : (p : MachineParty) → HasRoom p.objects shared.objects id n e c → Appends array_at 2 p
    element_set p room =
        let above = room.inherits in
        next_sets array_at above.first 1 p
        (array_sets p room ∙ ap (λ o. follows_with (naming_of me) shared array_at (as_exotic (set_inherited (key.Index n) v (own_object me id) o), p.objects) p) above.is)
        (next_sets (common_ref above.first) above.second 0 (deeper p)
        (set_decided above.first (key.Index n) v (own_object me id) (deeper p) above.lacks ∙ ap (λ o. follows_with (naming_of me) shared (common_ref above.first) (as_exotic (set_inherited (key.Index n) v (own_object me id) o), p.objects) (deeper p)) above.next)
        (last_sets (common_ref above.second) (deeper (deeper p)) room
        (set_decided above.second (key.Index n) v (own_object me id) (deeper (deeper p)) above.lacks_too ∙ ap (λ o. follows_with (naming_of me) shared (common_ref above.second) (as_exotic (set_inherited (key.Index n) v (own_object me id) o), p.objects) (deeper (deeper p))) above.last)))

-- FORMS

module _ (s : Sight) (common : List CommonObject) (at : ℕ) where
  -- an element is appended to an array of the party
  pub append : (object name form id n : ℕ) (v : MachineValue) (e c : Bool) (j m all : ℕ) → IsRow s at (node.Put object name form)
      → GivesAtOnce s object (own_object s.me id) 1 → NamesAtOnce s name (key.Index n) j → GivesAtOnce s form v m → HasRoom s.objects common id n e c → all ≡ 7 + j + m
      → AppendsAtOnce s common at v (at_place s.objects id (with_element n v e c)) all
  append object name form id n v e c j m all row first second third room sum =
      record {
        appends = λ shared env p ks charges limit steps w h t u d a.
            (let names = naming_of s.me in
            let o = own_object s.me id in
            let has_none : Next Ref MadeSymbol = with_value (put_object names shared (term_at s.code name) (term_at s.code form)) in
            let has_object : Next Ref MadeSymbol = with_value (put_key names shared (term_at s.code form) o) in
            let has_key : Next Ref MadeSymbol = with_value (put_property names shared o second.name) in
            let set : Next Ref MadeSymbol = has_set names v in
            let one_left : charge p.meter steps limit 1 ≡ Charged = part p.meter steps steps limit 1 all (omega (arith, sum)) a in
            let some_left : charge p.meter (steps + 1) limit 1 ≡ Charged = part p.meter steps (steps + 1) limit 1 all (omega (arith, sum)) a in
            let key_left : charge p.meter (steps + 1 + 1) limit j ≡ Charged = part p.meter steps (steps + 1 + 1) limit j all (omega (arith, sum)) a in
            let form_left : charge p.meter (steps + 1 + 1 + j) limit m ≡ Charged = part p.meter steps (steps + 1 + 1 + j) limit m all (omega (arith, sum)) a in
            let all_left : charge p.meter (steps + 1 + 1 + j + m) limit 5 ≡ Charged = part p.meter steps (steps + 1 + 1 + j + m) limit 5 all (omega (arith, sum)) a in
            let count : all + charges ≡ suc (1 + (j + (m + (5 + charges)))) = omega (arith, sum) in
            let paid : steps + 1 + 1 + j + m + 5 ≡ steps + all = omega (arith, sum) in
            ap (λ i. run_for names shared env i limit steps (Due 0 (Begins (term_at s.code at)) p ks)) count
            ∙ begun s at shared env p ks (1 + (j + (m + (5 + charges)))) limit steps (node.Put object name form) row one_left
            ∙ first.gives shared env p (has_none ∷ ks) (j + (m + (5 + charges))) limit (steps + 1) h t u some_left
            ∙ second.gives.gives shared env p (has_object ∷ ks) (m + (5 + charges)) limit (steps + 1 + 1) h t u key_left
            ∙ third.gives shared env p (has_key ∷ ks) (5 + charges) limit (steps + 1 + 1 + j) h t u form_left
            ∙ ap (λ act. run_for names shared env (5 + charges) limit (steps + 1 + 1 + j + m) (settle names shared env ks (answered names env act))) (puts s.me id shared second.name v (key.Index n) p second.is ∙ own_asked s.me id (ask.Set (key.Index n) v o) p set)
            ∙ element_set s.me shared id n v e c p (subst (λ (os : List (Object Ref MadeSymbol) × List CommonObject). HasRoom os.0 os.1 id n e c) (λ i. (sym h i, sym w i)) room) env (set ∷ ks) charges limit (steps + 1 + 1 + j + m) d all_left
            ∙ ap (λ i. run_for names shared env charges limit i (settle names shared env ks (Gives (Replied (reply.Value v)) (record p { objects = at_place p.objects id (with_element n v e c) })))) paid
            ∙ ap (λ os. run_for names shared env charges limit (steps + all) (settle names shared env ks (Gives (Replied (reply.Value v)) (record p { objects = at_place os id (with_element n v e c) })))) h);
      }

-- WHAT THE CODE WRITES

-- two changes of one object, one after the other
pub in_turn : (old middle new : List (Object Ref MadeSymbol)) (i : ℕ) (f g : Object Ref MadeSymbol → Object Ref MadeSymbol) → i < length old → middle ≡ at_place old i f → new ≡ at_place middle i g → new ≡ at_place old i (λ o. g (f o))
in_turn old middle new i f g lt first second =
    second ∙ (ap (λ os. at_place os i g) first
    ∙ (set-set old i (f (object_at old i)) (g (object_at (at_place old i f) i))
    ∙ ap (λ o. slice_set old i (g o)) (get_or-set_same old i (f (object_at old i)) _ lt)))

-- an element is written, and then the length
pub written_element : (old middle new : List (Object Ref MadeSymbol)) (id n : ℕ) (v x : MachineValue) (e c : Bool) (k : Key MadeSymbol) (length_after : Descriptor Ref MadeSymbol) → id < length old → x ≡ v → k ≡ length_key → length_after ≡ Data (value.Int (pos (n + 1))) true e c
    → middle ≡ at_place old id (with_change same_made_symbol (key.Index n) (change.Write (Data x true true true))) → new ≡ at_place middle id (with_replaced same_made_symbol k length_after)
    → new ≡ at_place old id (with_element n v e c)
written_element old middle new id n v x e c k length_after lt is at_length counts first second =
    in_turn old middle new id (with_change same_made_symbol (key.Index n) (change.Write (Data v true true true))) (with_replaced same_made_symbol length_key (Data (value.Int (pos (n + 1))) true e c)) lt
    (first ∙ ap (λ y. at_place old id (with_change same_made_symbol (key.Index n) (change.Write (Data y true true true)))) is)
    (second ∙ (λ i. at_place middle id (with_replaced same_made_symbol (at_length i) (counts i))))

module _ (s : Sight) (common : List CommonObject) where
  pub direct_append : (object name form id n j : ℕ) (d given : Direct) (after : List (Object Ref MadeSymbol))
      → GivesAtOnce s object (own_object s.me id) 1 → IsDirect s form given → NamesAtOnce s name (key.Index n) j → d.value ≡ given.value → d.steps ≡ 7 + j + given.steps → IsAppended s.objects common id n (value_of given.value) after
      → IsAppendRow s common (node.Put object name form) after d
  direct_append object name form id n j d given after first third second same sum w =
      λ at f. subst (λ (x : Plain × List (Object Ref MadeSymbol)). AppendsAtOnce s common at (value_of x.0) x.1 d.steps) (λ i. (sym same i, sym w.appended i))
      (append s common at object name form id n (value_of given.value) w.enumerable w.configurable j given.steps d.steps f first second third w.room sum)

  -- a form that writes a property at once does so here, too
  pub put_append : (n : Node) (after : List (Object Ref MadeSymbol)) (d : Direct) → IsPutRow s n after d → IsAppendRow s common n after d
  put_append n after d row = λ at e. record { appends = λ shared env p ks charges limit steps w h t u l a. (let shallow : p.depth < MAX_DEPTH = omega (arith, l) in (row at e).puts shared env p ks charges limit steps h t u shallow a) }

  pub put_appends : (n : Node) (after : List (Object Ref MadeSymbol)) (r : Option Direct) → IfSome r (IsPutRow s n after) → IfSome r (IsAppendRow s common n after)
  put_appends n after (Some d) row = put_append n after d row
  put_appends n after None row = tt
