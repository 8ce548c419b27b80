-- Forms that write an own data property at once.
use Rattle.std.proofs.Common.{◌≡◌, ℕ, suc, ◌+◌, ◌-◌, ◌<◌, Bool, true, false, not, ◌&&◌, ◌||◌, nat_lt, nat_le, cond, List, [], ◌∷◌, length, Option, Some, None, pos, negsuc, refl, sym, ap, ◌∙◌, subst, true≢false, arith, lt-ltb, if◌then◌else◌}
use Rattle.std.proofs.lemmas.Bool.{and_parts}
use Rattle.std.proofs.lemmas.Bool.Decides.{nat_tests}
use Rattle.std.specs.Bool.{beq}
use Rattle.std.specs.Fmt.{signed_decimal}
use Rattle.std.specs.Option.{option_map}
use Rattle.lava_base.specs.Ids.{same_ref, same_made_symbol}
use Rattle.lava_base.specs.SameRefs.{same_ref_decides}
use Rattle.lava_base.specs.SameSymbols.{same_made_symbol_decides}
use Rattle.lava_base.specs.declared.ids.MadeSymbol.{MadeSymbol}
use Rattle.lava_base.specs.declared.ids.Ref.{Ref}
use Rattle.lava_base.specs.declared.ids.Ref.TheVariants as reference
use Rattle.js_text.specs.Indices.{key_of_text}
use Rattle.js_text.specs.Length.{is_length, length_key}
use Rattle.js_text.specs.Naming.{Own, naming_of, origin_of}
use Rattle.js_text.specs.SameKeys.{same_value_sound}
use Rattle.js_text.specs.Values.{same_key, same_value}
use Rattle.js_text.specs.declared.value.Key.{Key}
use Rattle.js_text.specs.declared.value.Key.TheVariants as key
use Rattle.js_text.specs.declared.value.Value.TheVariants as value
use Rattle.js_desc.specs.Descriptors.{same_descriptor}
use Rattle.js_desc.specs.Validate.{change_of, validate_and_apply_property_descriptor}
use Rattle.js_desc.specs.declared.ask.Ask.{Ask}
use Rattle.js_desc.specs.declared.ask.Ask.TheVariants as ask
use Rattle.js_desc.specs.declared.descriptor.Change.{Change}
use Rattle.js_desc.specs.declared.descriptor.Change.TheVariants as change
use Rattle.js_desc.specs.declared.descriptor.Descriptor.{Descriptor}
use Rattle.js_desc.specs.declared.descriptor.Descriptor.TheVariants.{Data}
use Rattle.js_desc.specs.declared.reply.Reply.TheVariants as reply
use Rattle.js_term.specs.declared.term.Term.{out-Term}
use Rattle.js_code.specs.Decoded.{layer_of, term_at, text_at}
use Rattle.js_code.specs.declared.node.Node.{Node}
use Rattle.js_code.specs.declared.node.Node.TheVariants as node
use Rattle.js_store.specs.Objects.{Object, at_place, goes_before, object_at, ordinary_get_own_property, replaced, with_change, with_replaced, written}
use Rattle.js_store.specs.Order.{IsInOrder, MayPrecede, PrecedesAll}
use Rattle.js_store.specs.declared.slot.Entry.{Entry}
use Rattle.js_store.specs.declared.slot.Slot.{Slot}
use Rattle.js_store.specs.declared.slot.Slot.TheVariants as kept
use Rattle.js_ordinary.specs.OrdinaryDefineOwnProperty.{define_by}
use Rattle.js_ordinary.specs.OrdinarySet.{ordinary_set_with_own_descriptor, value_alone}
use Rattle.js_ordinary.specs.Origins.{object_of, there}
use Rattle.js_ordinary.specs.declared.next.Next.TheVariants as wait
use Rattle.js_operation.specs.Deeds.{MachineParty}
use Rattle.js_operation.specs.Operating.{MachineValue}
use Rattle.js_operation.specs.js_exotic.ArrayDefineOwnProperty.{change_at, define_by_class, define_element_by, define_named, define_own_property, element_appended, element_defined, is_array, ordinary_verdict}
use Rattle.js_operation.specs.js_exotic.ArrayLengths.{array_length_of}
use Rattle.js_operation.specs.js_exotic.Decided.{decided, decided_at, decided_there}
use Rattle.js_operation.specs.js_exotic.Verdicts.{ExoticVerdict, as_exotic, as_ordinary, exotic_carried_out, stays, truth}
use Rattle.js_operation.specs.js_exotic.declared.array_length.ArrayLength.{ArrayLength}
use Rattle.js_operation.specs.js_exotic.declared.array_length.TheConstants.{LENGTH_LIMIT}
use Rattle.js_operation.specs.js_exotic.declared.next.Next.TheVariants as next
use Rattle.js_operation.specs.js_run.Acts as acts
use Rattle.js_operation.specs.js_run.Acts.{Closes, Decide, Decides_on, Give, Next, asks_value, with_value}
use Rattle.js_operation.specs.js_run.Asking.{waits_for}
use Rattle.js_operation.specs.js_run.Completions as halt
use Rattle.js_operation.specs.js_run.Completions.{Replied}
use Rattle.js_operation.specs.js_run.Decisions.{decides, decides_ask, decides_by_slot, decides_collection, follows_with, goes_on}
use Rattle.js_operation.specs.js_run.Parties.{Shared, deeper, shallower}
use Rattle.js_operation.specs.js_run.Properties.{has_set, put_property}
use Rattle.js_operation.specs.js_run.Rows.{put_key, put_object}
use Rattle.js_operation.specs.js_run.Runs.{Begins, Charged, Decides, Due, Env, Gives, answered, charge, run_for, settle}
use Rattle.js_operation.specs.js_run.declared.TheConstants.{MAX_DEPTH}
use Rattle.js_direct.specs.Direct.{GivesAtOnce, IsDirect, Sight, is_proxy, key_named, own_object, value_of}
use Rattle.js_direct.specs.Puts.{HasWritable, IsPutRow, IsWritten, KeepsPlace, NamesAtOnce, PutsAtOnce, defines_plainly, is_below_length, is_inside}
use Rattle.js_direct.specs.declared.direct.Direct.{Direct}
use Rattle.js_direct.proofs.Charges.{one, part}
use Rattle.js_direct.proofs.Given.{IsRow, begun, name_at, own_asked, own_origin}

-- A PROPERTY KEEPS ITS PLACE

abbrev Properties : Type 0
Properties = List (Key MadeSymbol × Descriptor Ref MadeSymbol)

abbrev own : Key MadeSymbol → Properties → Option (Descriptor Ref MadeSymbol)
own k ps = ordinary_get_own_property same_made_symbol k ps

-- what is there already changes nothing
again : (k : Key MadeSymbol) (d : Descriptor Ref MadeSymbol) (ps : Properties) → own k ps ≡ Some d → replaced same_made_symbol k d ps ≡ ps
again k d [] e = refl
again k d (p ∷ ps) e = by_test (same_key same_made_symbol k p.0) e (again k d ps)
  where
    by_test : (is : Bool) → cond is (Some p.1) (own k ps) ≡ Some d → (own k ps ≡ Some d → replaced same_made_symbol k d ps ≡ ps)
        → cond is ((p.0, d) ∷ ps) (p ∷ replaced same_made_symbol k d ps) ≡ p ∷ ps
    by_test true h rest = let same : d ≡ p.1 = cc in ap (λ x. (p.0, x) ∷ ps) same
    by_test false h rest = ap (λ l. p ∷ l) (rest h)

-- a key that goes before no other one
name_in_place : (k : Key MadeSymbol) → ((o : Key MadeSymbol) → goes_before k o ≡ false) → (d old : Descriptor Ref MadeSymbol) (ps : Properties) → own k ps ≡ Some old → written same_made_symbol k d ps ≡ replaced same_made_symbol k d ps
name_in_place k last d old [] e = cc
name_in_place k last d old (p ∷ ps) e = by_test (same_key same_made_symbol k p.0) e (name_in_place k last d old ps)
  where
    by_test : (is : Bool) → cond is (Some p.1) (own k ps) ≡ Some old → (own k ps ≡ Some old → written same_made_symbol k d ps ≡ replaced same_made_symbol k d ps)
        → cond is ((p.0, d) ∷ ps) (cond (goes_before k p.0) ((k, d) ∷ p ∷ ps) (p ∷ written same_made_symbol k d ps)) ≡ cond is ((p.0, d) ∷ ps) (p ∷ replaced same_made_symbol k d ps)
    by_test true h rest = refl
    by_test false h rest = ap (λ b. cond b ((k, d) ∷ p ∷ ps) (p ∷ written same_made_symbol k d ps)) (last p.0) ∙ ap (λ l. p ∷ l) (rest h)

-- an index that goes before one key is none of those behind that one
other_key : (n : ℕ) (o q : Key MadeSymbol) → goes_before (key.Index n) o ≡ true → MayPrecede same_made_symbol o q → same_key same_made_symbol (key.Index n) q ≡ false
other_key n (key.Index a) (key.Index b) h m = let other = m.other in let before = m.before in grind (arith, nat_tests)
other_key n (key.Text t) (key.Index b) h m = absurd (true≢false m.before)
other_key n (key.Symbol s) (key.Index b) h m = absurd (true≢false m.before)
other_key n o (key.Text t) h m = refl
other_key n o (key.Symbol s) h m = refl

absent : (n : ℕ) (o : Key MadeSymbol) (ps : Properties) → goes_before (key.Index n) o ≡ true → PrecedesAll same_made_symbol o ps → own (key.Index n) ps ≡ None
absent n o [] h all = refl
absent n o (p ∷ ps) h all = ap (λ b. cond b (Some p.1) (own (key.Index n) ps)) (other_key n o p.0 h all.0) ∙ absent n o ps h all.1

index_in_place : (n : ℕ) (d old : Descriptor Ref MadeSymbol) (ps : Properties) → IsInOrder same_made_symbol ps → own (key.Index n) ps ≡ Some old → written same_made_symbol (key.Index n) d ps ≡ replaced same_made_symbol (key.Index n) d ps
index_in_place n d old [] order e = cc
index_in_place n d old (p ∷ ps) order e = by_tests (same_key same_made_symbol (key.Index n) p.0) (goes_before (key.Index n) p.0) refl e (index_in_place n d old ps order.1)
  where
    by_tests : (is before : Bool) → goes_before (key.Index n) p.0 ≡ before → cond is (Some p.1) (own (key.Index n) ps) ≡ Some old
        → (own (key.Index n) ps ≡ Some old → written same_made_symbol (key.Index n) d ps ≡ replaced same_made_symbol (key.Index n) d ps)
        → cond is ((p.0, d) ∷ ps) (cond before ((key.Index n, d) ∷ p ∷ ps) (p ∷ written same_made_symbol (key.Index n) d ps)) ≡ cond is ((p.0, d) ∷ ps) (p ∷ replaced same_made_symbol (key.Index n) d ps)
    by_tests true before g h rest = refl
    by_tests false true g h rest = let none : own (key.Index n) ps ≡ None = absent n p.0 ps g order.0 in cc
    by_tests false false g h rest = ap (λ l. p ∷ l) (rest h)

in_place : (k : Key MadeSymbol) (d old : Descriptor Ref MadeSymbol) (o : Object Ref MadeSymbol) → KeepsPlace k o → own k o.properties ≡ Some old → written same_made_symbol k d o.properties ≡ replaced same_made_symbol k d o.properties
in_place (key.Index n) d old o place e = index_in_place n d old o.properties place e
in_place (key.Text t) d old o place e = name_in_place (key.Text t) (λ k. refl) d old o.properties e
in_place (key.Symbol s) d old o place e = name_in_place (key.Symbol s) (λ k. refl) d old o.properties e

-- WHAT A DEFINITION OF A VALUE ALONE CHANGES

-- where the same value is there, nothing
same_there : (old v : MachineValue) (e c : Bool) → same_descriptor same_ref same_made_symbol (Data old true e c) (Data v true e c) ≡ true → old ≡ v
same_there old v e c h = same_value_sound same_ref_decides same_made_symbol_decides old v (and_parts (same_value same_ref same_made_symbol old v) (beq e e && beq c c) h).0

module _ (o : Object Ref MadeSymbol) (k : Key MadeSymbol) (old v : MachineValue) (e c : Bool) where
  abbrev was : Descriptor Ref MadeSymbol
  was = Data old true e c

  abbrev is : Descriptor Ref MadeSymbol
  is = Data v true e c

  abbrev changes : Change Ref MadeSymbol
  changes = change_of same_ref same_made_symbol was is

  -- the property is replaced
  pub changed : own k o.properties ≡ Some was → KeepsPlace k o → with_change same_made_symbol k changes o ≡ with_replaced same_made_symbol k is o
  changed there place = by_test (same_descriptor same_ref same_made_symbol was is) refl
    where
      by_test : (b : Bool) → same_descriptor same_ref same_made_symbol was is ≡ b → with_change same_made_symbol k (if b then change.Nothing else change.Write is) o ≡ with_replaced same_made_symbol k is o
      by_test true h = ap (λ ps. record o { properties = ps }) (sym (again k is o.properties (there ∙ ap (λ x. Some (Data x true e c)) (same_there old v e c h))))
      by_test false h = ap (λ ps. record o { properties = ps }) (in_place k is was o place there)

-- what is not true is false
is_false : (b : Bool) → not b ≡ true → b ≡ false
is_false true h = cc
is_false false h = refl

-- the rule takes it
taken : (old v : MachineValue) (e c extensible : Bool) → validate_and_apply_property_descriptor same_ref same_made_symbol (Some (Data old true e c)) extensible (value_alone v) ≡ Some (change_of same_ref same_made_symbol (Data old true e c) (Data v true e c))
taken old v e true extensible = refl
taken old v e false extensible = refl

module _ (me : ℕ) (r : Ref) (o : Object Ref MadeSymbol) (k : Key MadeSymbol) (old v : MachineValue) (e c : Bool) where
  abbrev becomes : Object Ref MadeSymbol → ExoticVerdict Ref MadeSymbol
  becomes x = (truth true, Some x)

  abbrev Replaces : ExoticVerdict Ref MadeSymbol → Type 0
  Replaces d = d ≡ becomes (with_replaced same_made_symbol k (Data v true e c) o)

  module _ (there : own k o.properties ≡ Some (Data old true e c)) (place : KeepsPlace k o) where
    change_is : change_at (naming_of me) o k (value_alone v) ≡ Some (changes o k old v e c)
    change_is = ap (λ x. validate_and_apply_property_descriptor same_ref same_made_symbol x o.extensible (value_alone v)) there ∙ taken old v e c o.extensible

    replaces : Replaces (becomes (with_change same_made_symbol k (changes o k old v e c) o))
    replaces = ap becomes (changed o k old v e c there place)

    -- an ordinary object
    ordinarily : Replaces (ordinary_verdict (naming_of me) o k (value_alone v))
    ordinarily = ap (λ x. as_ordinary (define_by (naming_of me) o k x)) change_is ∙ replaces

    -- an array, below its length
    module _ (n : ℕ) (same : key.Index n ≡ k) where
      abbrev defined_by : Option ArrayLength → ExoticVerdict Ref MadeSymbol
      defined_by l = define_element_by (naming_of me) o n (value_alone v) l

      ordinary_element : Replaces (ordinary_verdict (naming_of me) o (key.Index n) (value_alone v))
      ordinary_element = ap (λ x. ordinary_verdict (naming_of me) o x (value_alone v)) same ∙ ordinarily

      -- whatever the length is, if it is above
      below : (l : ArrayLength) → nat_lt n l.count ≡ true → Replaces (defined_by (Some l))
      below l h =
          let names = naming_of me in
          let d = value_alone v in
          let under : nat_le l.count n ≡ false = grind (arith, nat_tests) in
          let is_changed : change_at names o (key.Index n) d ≡ Some (changes o k old v e c) = ap (λ x. change_at names o x d) same ∙ change_is in
          ap (λ b. if b && not l.writable then stays (truth false) else element_defined names o n l (change_at names o (key.Index n) d)) under
          ∙ ap (element_defined names o n l) is_changed
          ∙ ap (λ b. becomes (if b then with_change same_made_symbol (key.Index n) (changes o k old v e c) o else element_appended names n (changes o k old v e c) l o)) h
          ∙ ap (λ x. becomes (with_change same_made_symbol x (changes o k old v e c) o)) same
          ∙ replaces

      by_limit : (m : ℕ) (w e' c' b : Bool) → nat_lt n m ≡ true
          → Replaces (defined_by (option_map (λ count. record { count = count; writable = w; enumerable = e'; configurable = c' }) (if b then Some m else None)))
      by_limit m w e' c' true h = below (record { count = m; writable = w; enumerable = e'; configurable = c' }) h
      by_limit m w e' c' false h = ordinary_element

      element : (l : Option (Descriptor Ref MadeSymbol)) → is_below_length n l ≡ true → Replaces (defined_by (array_length_of l))
      element (Some (Data (value.Int (pos m)) w e' c')) h = by_limit m w e' c' (nat_lt m LENGTH_LIMIT) h
      element (Some (Data (value.Int (negsuc m)) w e' c')) h = cc
      element l h = cc

  -- an array defines what is inside it, and any other object all, as an ordinary one
  inside : (k' : Key MadeSymbol) → k' ≡ k → own k o.properties ≡ Some (Data old true e c) → KeepsPlace k o → is_inside o k' ≡ true → Replaces (define_by_class (naming_of me) r o k' (value_alone v) true)
  inside (key.Index n) same there place h = element there place n same (own length_key o.properties) h
  inside (key.Text t) same there place h =
      ap (define_named (naming_of me) r o (key.Text t) (value_alone v)) (is_false (is_length {S = MadeSymbol} (key.Text t)) h)
      ∙ ap (λ x. ordinary_verdict (naming_of me) o x (value_alone v)) same ∙ ordinarily there place
  inside (key.Symbol s) same there place h = ap (λ x. ordinary_verdict (naming_of me) o x (value_alone v)) same ∙ ordinarily there place

  by_class : (array : Bool) → own k o.properties ≡ Some (Data old true e c) → KeepsPlace k o → (not array || is_inside o k) ≡ true → Replaces (define_by_class (naming_of me) r o k (value_alone v) array)
  by_class false there place h = ordinarily there place
  by_class true there place h = inside k refl there place h

  pub value_defined : own k o.properties ≡ Some (Data old true e c) → KeepsPlace k o → defines_plainly o k ≡ true → Replaces (define_own_property (naming_of me) r o k (value_alone v))
  value_defined there place h = by_class (is_array o.marks.class) there place h

-- DECISIONS

-- the property that is there
found_writable : (objects : List (Object Ref MadeSymbol)) (id : ℕ) (k : Key MadeSymbol) (e c : Bool) (w : HasWritable objects id k e c) → own k (object_at objects id).properties ≡ Some (Data w.writable.old true e c)
found_writable objects id k e c w = w.found ∙ ap Some w.writable.is

module _ (me : ℕ) (shared : Shared) where
  -- an own object that is no proxy decides by the table, if it is asked for nothing that a function or a collection answers
  pub by_slot : (r : Ref) (x : Ask Ref MadeSymbol) (callable : Bool) (p : MachineParty)
      → ((t : Slot Ref MadeSymbol) → decides_ask (naming_of me) shared r t callable x p ≡ follows_with (naming_of me) shared r (decided (naming_of me) p.objects shared.objects r x) p)
      → ((es : List (Entry Ref MadeSymbol)) → decides_collection (naming_of me) shared r es callable x p ≡ follows_with (naming_of me) shared r (decided (naming_of me) p.objects shared.objects r x) p)
      → (t : Slot Ref MadeSymbol) → is_proxy t ≡ false → decides_by_slot (naming_of me) shared r t callable x p ≡ follows_with (naming_of me) shared r (decided (naming_of me) p.objects shared.objects r x) p
  by_slot r x callable p does looks kept.Plain e = does kept.Plain
  by_slot r x callable p does looks (kept.Closure body home lexical) e = does (kept.Closure body home lexical)
  by_slot r x callable p does looks (kept.Held h) e = does (kept.Held h)
  by_slot r x callable p does looks (kept.Bound target this args) e = does (kept.Bound target this args)
  by_slot r x callable p does looks (kept.Proxy o) e = cc
  by_slot r x callable p does looks (kept.Table es) e = looks es
  by_slot r x callable p does looks (kept.Chamber g) e = does (kept.Chamber g)
  by_slot r x callable p does looks (kept.Promised y) e = does (kept.Promised y)
  by_slot r x callable p does looks (kept.Namespace sc ex) e = does (kept.Namespace sc ex)

  module _ (id : ℕ) where
    abbrev me_at : Ref
    me_at = reference.Own (record { 0 = me }) (record { 0 = id })

    pub own_decided : (x : Ask Ref MadeSymbol) (p : MachineParty) → id < length p.objects → is_proxy (object_at p.objects id).slot ≡ false
        → ((callable : Bool) (t : Slot Ref MadeSymbol) → decides_ask (naming_of me) shared me_at t callable x p ≡ follows_with (naming_of me) shared me_at (decided (naming_of me) p.objects shared.objects me_at x) p)
        → ((callable : Bool) (es : List (Entry Ref MadeSymbol)) → decides_collection (naming_of me) shared me_at es callable x p ≡ follows_with (naming_of me) shared me_at (decided (naming_of me) p.objects shared.objects me_at x) p)
        → decides (naming_of me) shared (own_object me id) x p ≡ follows_with (naming_of me) shared me_at (decided_at (naming_of me) p.objects shared.objects me_at (Own id) x) p
    own_decided x p is_there plain does looks =
        let names = naming_of me in
        let from : origin_of me me_at ≡ Own id = own_origin me shared id in
        let callable = (object_at p.objects id).marks.callable in
        ap (λ (o : Object Ref MadeSymbol). decides_by_slot names shared me_at o.slot o.marks.callable x p) (ap (object_of names.common p.objects shared.objects) from)
        ∙ by_slot me_at x callable p (does callable) (looks callable) (object_at p.objects id).slot plain
        ∙ ap (λ d. follows_with names shared me_at d p) (
        ap (λ o. decided_there names p.objects shared.objects me_at x (there p.objects shared.objects o)) from
        ∙ ap (λ b. decided_there names p.objects shared.objects me_at x (if b then Some (Own id) else None)) (lt-ltb id (length p.objects) is_there))

    -- what waits for the answer of an own object is open meanwhile
    pub waits : (x : Ask Ref MadeSymbol) (n : Next Ref MadeSymbol) (p : MachineParty) → p.depth < MAX_DEPTH → waits_for (naming_of me) me_at x p n ≡ Decide (own_object me id) x (deeper p) (Closes n)
    waits x n p h =
        ap (λ b. if b then asks_value (naming_of me) (own_object me id) x (deeper p) (Closes n) else acts.End halt.Depth) (lt-ltb p.depth MAX_DEPTH h)
        ∙ own_asked me id x (deeper p) (Closes n)

    module _ (k : Key MadeSymbol) (v : MachineValue) (e c : Bool) (p : MachineParty) (w : HasWritable p.objects id k e c) where
      abbrev told : Next Ref MadeSymbol
      told = Decides_on me_at (next.Ordinary (wait.Receiver k v me_at))

      abbrev defined : Next Ref MadeSymbol
      defined = Decides_on me_at (next.Ordinary wait.Answer)

      abbrev replaced_objects : List (Object Ref MadeSymbol)
      replaced_objects = at_place p.objects id (with_replaced same_made_symbol k (Data v true e c))

      -- the object that is asked to set the property asks the receiver, which is itself, for its own property
      sets : p.depth < MAX_DEPTH → decides (naming_of me) shared (own_object me id) (ask.Set k v (own_object me id)) p ≡ Decide (own_object me id) (ask.GetOwnProperty k) (deeper p) (Closes told)
      sets h =
          own_decided (ask.Set k v (own_object me id)) p w.there w.decides (λ callable t. refl) (λ callable es. refl)
          ∙ ap (λ x. follows_with (naming_of me) shared me_at (as_exotic (ordinary_set_with_own_descriptor k v (own_object me id) (object_at p.objects id).prototype x), p.objects) p) (found_writable p.objects id k e c w)
          ∙ waits (ask.GetOwnProperty k) told p h

      -- it tells it
      tells : decides (naming_of me) shared (own_object me id) (ask.GetOwnProperty k) (deeper p) ≡ Give (Replied (reply.Desc (Some (Data w.writable.old true e c)))) (deeper p)
      tells =
          own_decided (ask.GetOwnProperty k) (deeper p) w.there w.decides (λ callable t. refl) (λ callable es. refl)
          ∙ ap (λ x. Give (Replied (reply.Desc x)) (deeper p)) (found_writable p.objects id k e c w)

      -- and defines its value
      defines : decides (naming_of me) shared (own_object me id) (ask.DefineOwnProperty k (value_alone v)) (deeper p) ≡ Give (Replied (reply.Flag true)) (record (deeper p) { objects = replaced_objects })
      defines =
          own_decided (ask.DefineOwnProperty k (value_alone v)) (deeper p) w.there w.decides (λ callable t. refl) (λ callable es. refl)
          ∙ ap (λ d. follows_with (naming_of me) shared me_at (exotic_carried_out p.objects (Own id) d) (deeper p)) (value_defined me me_at (object_at p.objects id) k w.writable.old v e c (found_writable p.objects id k e c w) w.place w.plainly)

-- what was open is open no longer
pub closed : (p : MachineParty) → shallower (deeper p) ≡ p
closed p = let same : suc p.depth - 1 ≡ p.depth = omega arith in ap (λ d. record p { depth = d }) same

-- the three decisions of a Set
module _ (me id : ℕ) (k : Key MadeSymbol) (v : MachineValue) (e c : Bool) where
  pub data_put : (shared : Shared) (env : Env Ref) (p : MachineParty) (ks : List (Next Ref MadeSymbol)) (charges limit steps : ℕ)
      → HasWritable p.objects id k e c → p.depth < MAX_DEPTH → charge p.meter steps limit 3 ≡ Charged
      → run_for (naming_of me) shared env (suc (suc (suc charges))) limit steps (Due 0 (Decides (own_object me id) (ask.Set k v (own_object me id))) p (has_set (naming_of me) v ∷ ks))
      ≡ run_for (naming_of me) shared env charges limit (steps + 3) (settle (naming_of me) shared env ks (Gives (Replied (reply.Value v)) (record p { objects = at_place p.objects id (with_replaced same_made_symbol k (Data v true e c)) })))
  data_put shared env p ks charges limit steps w h a =
      let names = naming_of me in
      let o = own_object me id in
      let r : Ref = reference.Own (record { 0 = me }) (record { 0 = id }) in
      let set : Next Ref MadeSymbol = has_set names v in
      let has_told : Next Ref MadeSymbol = Decides_on r (next.Ordinary (wait.Receiver k v r)) in
      let has_defined : Next Ref MadeSymbol = Decides_on r (next.Ordinary wait.Answer) in
      let written : MachineParty = record p { objects = at_place p.objects id (with_replaced same_made_symbol k (Data v true e c)) } in
      let one_left : charge p.meter steps limit 1 ≡ Charged = part p.meter steps steps limit 1 3 (omega arith) a in
      let two_left : charge p.meter (steps + 1) limit 1 ≡ Charged = part p.meter steps (steps + 1) limit 1 3 (omega arith) a in
      let all_left : charge p.meter (steps + 1 + 1) limit 1 ≡ Charged = part p.meter steps (steps + 1 + 1) limit 1 3 (omega arith) a in
      let paid : steps + 1 + 1 + 1 ≡ steps + 3 = omega arith in
      one names shared env (suc (suc charges)) limit steps (Decides o (ask.Set k v o)) p (set ∷ ks) one_left
      ∙ ap (λ act. run_for names shared env (suc (suc charges)) limit (steps + 1) (settle names shared env (set ∷ ks) (answered names env act))) (sets me shared id k v e c p w h)
      ∙ one names shared env (suc charges) limit (steps + 1) (Decides o (ask.GetOwnProperty k)) (deeper p) (Closes has_told ∷ set ∷ ks) two_left
      ∙ ap (λ act. run_for names shared env (suc charges) limit (steps + 1 + 1) (settle names shared env (Closes has_told ∷ set ∷ ks) (answered names env act))) (tells me shared id k v e c p w)
      ∙ ap (λ q. run_for names shared env (suc charges) limit (steps + 1 + 1) (settle names shared env (set ∷ ks) (answered names env (goes_on names shared r (next.Ordinary (wait.Receiver k v r)) (reply.Desc (Some (Data w.writable.old true e c))) q)))) (closed p)
      ∙ ap (λ act. run_for names shared env (suc charges) limit (steps + 1 + 1) (settle names shared env (set ∷ ks) (answered names env act))) (waits me shared id (ask.DefineOwnProperty k (value_alone v)) has_defined p h)
      ∙ one names shared env charges limit (steps + 1 + 1) (Decides o (ask.DefineOwnProperty k (value_alone v))) (deeper p) (Closes has_defined ∷ set ∷ ks) all_left
      ∙ ap (λ act. run_for names shared env charges limit (steps + 1 + 1 + 1) (settle names shared env (Closes has_defined ∷ set ∷ ks) (answered names env act))) (defines me shared id k v e c p w)
      ∙ ap (λ q. run_for names shared env charges limit (steps + 1 + 1 + 1) (settle names shared env ks (Gives (Replied (reply.Value v)) q))) (closed written)
      ∙ ap (λ m. run_for names shared env charges limit m (settle names shared env ks (Gives (Replied (reply.Value v)) written))) paid

-- FORMS

-- a number or a text is a key at once
pub puts : (me id : ℕ) (shared : Shared) (w v : MachineValue) (k : Key MadeSymbol) (p : MachineParty) → key_named w ≡ Some k
    → put_property (naming_of me) shared (own_object me id) w v p ≡ asks_value (naming_of me) (own_object me id) (ask.Set k v (own_object me id)) p (has_set (naming_of me) v)
puts me id shared (value.Int n) v k p e = let same : key_of_text (signed_decimal n) ≡ k = cc in ap (λ x. asks_value (naming_of me) (own_object me id) (ask.Set x v (own_object me id)) p (has_set (naming_of me) v)) same
puts me id shared (value.Text t) v k p e = let same : key_of_text t ≡ k = cc in ap (λ x. asks_value (naming_of me) (own_object me id) (ask.Set x v (own_object me id)) p (has_set (naming_of me) v)) same
puts me id shared value.Undefined v k p e = cc
puts me id shared value.Null v k p e = cc
puts me id shared (value.Bool b) v k p e = cc
puts me id shared (value.Symbol s) v k p e = cc
puts me id shared (value.Ref r) v k p e = cc

module _ (s : Sight) (at : ℕ) where
  -- an own data property of an object of the party is written
  pub put : (object key form id : ℕ) (v : MachineValue) (k : Key MadeSymbol) (e c : Bool) (j m all : ℕ) → IsRow s at (node.Put object key form)
      → GivesAtOnce s object (own_object s.me id) 1 → NamesAtOnce s key k j → GivesAtOnce s form v m → HasWritable s.objects id k e c → all ≡ 5 + j + m
      → PutsAtOnce s at v (at_place s.objects id (with_replaced same_made_symbol k (Data v true e c))) all
  put object key form id v k e c j m all row first second third has sum =
      record {
        puts = λ shared env p ks charges limit steps h t u d a.
            (let names = naming_of s.me in
            let o = own_object s.me id in
            let has_none : Next Ref MadeSymbol = with_value (put_object names shared (term_at s.code key) (term_at s.code form)) in
            let has_object : Next Ref MadeSymbol = with_value (put_key names shared (term_at s.code form) o) in
            let has_key : Next Ref MadeSymbol = with_value (put_property names shared o second.name) in
            let set : Next Ref MadeSymbol = has_set names v in
            let one_left : charge p.meter steps limit 1 ≡ Charged = part p.meter steps steps limit 1 all (omega (arith, sum)) a in
            let some_left : charge p.meter (steps + 1) limit 1 ≡ Charged = part p.meter steps (steps + 1) limit 1 all (omega (arith, sum)) a in
            let key_left : charge p.meter (steps + 1 + 1) limit j ≡ Charged = part p.meter steps (steps + 1 + 1) limit j all (omega (arith, sum)) a in
            let form_left : charge p.meter (steps + 1 + 1 + j) limit m ≡ Charged = part p.meter steps (steps + 1 + 1 + j) limit m all (omega (arith, sum)) a in
            let all_left : charge p.meter (steps + 1 + 1 + j + m) limit 3 ≡ Charged = part p.meter steps (steps + 1 + 1 + j + m) limit 3 all (omega (arith, sum)) a in
            let count : all + charges ≡ suc (1 + (j + (m + suc (suc (suc charges))))) = omega (arith, sum) in
            let paid : steps + 1 + 1 + j + m + 3 ≡ steps + all = omega (arith, sum) in
            ap (λ n. run_for names shared env n limit steps (Due 0 (Begins (term_at s.code at)) p ks)) count
            ∙ begun s at shared env p ks (1 + (j + (m + suc (suc (suc charges))))) limit steps (node.Put object key form) row one_left
            ∙ first.gives shared env p (has_none ∷ ks) (j + (m + suc (suc (suc charges)))) limit (steps + 1) h t u some_left
            ∙ second.gives.gives shared env p (has_object ∷ ks) (m + suc (suc (suc charges))) limit (steps + 1 + 1) h t u key_left
            ∙ third.gives shared env p (has_key ∷ ks) (suc (suc (suc charges))) limit (steps + 1 + 1 + j) h t u form_left
            ∙ ap (λ act. run_for names shared env (suc (suc (suc charges))) limit (steps + 1 + 1 + j + m) (settle names shared env ks (answered names env act))) (puts s.me id shared second.name v k p second.is ∙ own_asked s.me id (ask.Set k v o) p set)
            ∙ data_put s.me id k v e c shared env p ks charges limit (steps + 1 + 1 + j + m) (subst (λ os. HasWritable os id k e c) (sym h) has) d all_left
            ∙ ap (λ n. run_for names shared env charges limit n (settle names shared env ks (Gives (Replied (reply.Value v)) (record p { objects = at_place p.objects id (with_replaced same_made_symbol k (Data v true e c)) })))) paid
            ∙ ap (λ os. run_for names shared env charges limit (steps + all) (settle names shared env ks (Gives (Replied (reply.Value v)) (record p { objects = at_place os id (with_replaced same_made_symbol k (Data v true e c)) })))) h);
      }

-- WHAT THE CODE WRITES

module _ (s : Sight) where
  -- a name
  pub text_names : (at t : ℕ) (n : Node) (k : Key MadeSymbol) → out-Term (term_at s.code at) ≡ layer_of s.code (term_at s.code) n → n ≡ node.Text t → k ≡ key_of_text (text_at s.code t) → NamesAtOnce s at k 1
  text_names at t n k e f same = record { name = value.Text (text_at s.code t); gives = name_at s at t n e f; is = ap Some (sym same) }

  pub direct_put : (object key form id : ℕ) (k : Key MadeSymbol) (j n : ℕ) (d : Direct) (after : List (Object Ref MadeSymbol))
      → GivesAtOnce s object (own_object s.me id) 1 → IsDirect s form d → NamesAtOnce s key k j → n ≡ 5 + j + d.steps → IsWritten s.objects id k (value_of d.value) after
      → IsPutRow s (node.Put object key form) after (record { value = d.value; steps = n })
  direct_put object key form id k j n d after first third second sum w =
      λ at e. subst (λ os. PutsAtOnce s at (value_of d.value) os n) (sym w.written) (put s at object key form id (value_of d.value) k w.enumerable w.configurable j d.steps n e first second third w.writable sum)
