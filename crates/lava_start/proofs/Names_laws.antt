-- What a package names of others, whatever it is granted.
use Rattle.std.proofs.Common.{◌≡◌, ℕ, zero, suc, ◌+◌, ◌<◌, ◌||◌, Bool, true, false, cond, nat_eq, List, [], ◌∷◌, ◌++◌, length, map, filter, Option, None, Some, if◌then◌else◌, refl, sym, ap, ◌∙◌, subst, inl, inr, ◌⊎◌, ⊎_elim, append-nil, eq-eqb, arith}
use Rattle.std.specs.List.{list_any}
use Rattle.std.specs.Str.{chars}
use Rattle.std.specs.Str.Parse.{digits_value}
use Rattle.lava_base.specs.Ids.{same_made_symbol}
use Rattle.lava_base.specs.declared.ids.MadeSymbol.{MadeSymbol}
use Rattle.lava_base.specs.declared.ids.Ref.{Ref}
use Rattle.js_text.specs.CommonPaths.{common_paths}
use Rattle.js_text.specs.Identities.{Identity, Of_object, key_identities, value_identities}
use Rattle.js_text.specs.Indices.{is_array_index}
use Rattle.js_text.specs.Naming.{naming_of}
use Rattle.js_text.specs.Utf8.{units_of}
use Rattle.js_text.specs.Values.{same_key}
use Rattle.js_text.specs.declared.value.Key.{Key}
use Rattle.js_text.specs.declared.value.Key.TheVariants as key
use Rattle.js_desc.specs.Identities.{all_identities, descriptor_identities, option_identities, ref_identities}
use Rattle.js_desc.specs.declared.descriptor.Descriptor.{Descriptor}
use Rattle.js_desc.specs.declared.start.Grant.{Grant}
use Rattle.js_desc.specs.declared.start.Grant.TheVariants.{Whole, Part, Live, LivePart}
use Rattle.js_store.specs.Frozen.{common_ref}
use Rattle.js_store.specs.Identities.{held_identities, live_identities, object_identities, property_identities, slot_identities}
use Rattle.js_store.specs.Objects.{goes_before, written}
use Rattle.js_store.specs.declared.slot.Held.{Held}
use Rattle.js_store.specs.declared.slot.Held.TheVariants as held
use Rattle.js_store.specs.declared.slot.Live.{Live as Target}
use Rattle.js_world.specs.js_run.Globals.{default_properties}
use Rattle.js_world.specs.js_run.Identities.{IsAmong}
use Rattle.js_world.specs.js_run.Laws.{is_foreign, is_from_other}
use Rattle.js_world.specs.js_run.Starts.{host_ref}
use Rattle.js_world.specs.js_run.declared.intrinsics.TheConstants.{FUNCTION_PROTOTYPE, OBJECT_PROTOTYPE}
use Rattle.js_world.proofs.of_js_run_laws.Given_laws.{AtHome, default_home}
use Rattle.js_world.proofs.of_js_run_laws.Looks.{behind, in_front}
use Rattle.js_world.proofs.of_js_run_laws.Story.{in_either}
use Rattle.js_world.proofs.of_js_run_laws.Swap.{own_origin}
use Rattle.lava_start.specs.Grants.{AreInRange, Granted, IsHostObject, IsInRange, MembersInRange, Package_names_all, Package_names_known, Root_is_granted_all, Supply, builtin_grant_objects, builtin_grant_value, builtin_objects, builtin_value, frozen_object, global_supply, grant_objects, grant_property, granted_global, has_members, host_identities, is_granted, is_live, key_of_name, live_accessor, live_function, live_functions, live_part_objects, member_supply, names_host, numbers_from, package_builtin, package_identities, package_names, package_objects, part_member, part_object, root_global, root_identities, supplied_objects, supplied_properties, target_of, with_properties}
use Rattle.lava_start.specs.Making.{Thing}

abbrev Property : Type 0
Property = Key MadeSymbol × Descriptor Ref MadeSymbol

abbrev ids : List Property → List (Identity Ref MadeSymbol)
ids ps = all_identities property_identities ps

abbrev objs : List Thing → List (Identity Ref MadeSymbol)
objs os = all_identities object_identities os

-- a name is no made symbol
nothing_in_name : (name : List ℕ) → key_identities {R = Ref} (key_of_name name) ≡ []
nothing_in_name name = by (is_array_index (units_of name))
  where
    by : (b : Bool) → key_identities {R = Ref} {S = MadeSymbol} (if b then key.Index (digits_value 10 (units_of name)) else key.Text (units_of name)) ≡ []
    by true = refl
    by false = refl

module _ (p : ℕ) (ns : List (Identity Ref MadeSymbol)) where
  -- those of others among these are names of the package
  abbrev Covered : List (Identity Ref MadeSymbol) → Type 0
  Covered xs = (a : Identity Ref MadeSymbol) → is_foreign p a ≡ true → IsAmong a xs → IsAmong a ns

  none : Covered []
  none a foreign h = absurd h

  no_one : (xs : List (Identity Ref MadeSymbol)) → xs ≡ [] → Covered xs
  no_one xs e = subst Covered (sym e) none

  both : (xs ys : List (Identity Ref MadeSymbol)) → Covered xs → Covered ys → Covered (xs ++ ys)
  both xs ys hx hy a foreign h = ⊎_elim (hx a foreign) (hy a foreign) (in_either a xs ys h)

  first_part : (xs ys : List (Identity Ref MadeSymbol)) → Covered (xs ++ ys) → Covered xs
  first_part xs ys h a foreign k = h a foreign (in_front a xs ys k)

  last_part : (xs ys : List (Identity Ref MadeSymbol)) → Covered (xs ++ ys) → Covered ys
  last_part xs ys h a foreign k = h a foreign (behind a xs ys k)

  at_home : (xs : List (Identity Ref MadeSymbol)) → AtHome p xs → Covered xs
  at_home xs home a foreign h = absurd (let bad : true ≡ false = sym foreign ∙ home a h in cc bad)

  itself : (x : Identity Ref MadeSymbol) → IsAmong x ns → Covered (x ∷ [])
  itself x k a foreign h = ⊎_elim (λ e. subst (λ b. IsAmong b ns) (sym e) k) (λ z. absurd z) h

  common_one : (c : ℕ) → Covered (Of_object (common_ref c) ∷ [])
  common_one c a foreign h = ⊎_elim (λ e. absurd (let bad : true ≡ false = sym foreign ∙ ap (is_foreign p) e in cc bad)) (λ z. absurd z) h

  own_one : (i : ℕ) → Covered (Of_object ((naming_of p).own i) ∷ [])
  own_one i a foreign h = ⊎_elim (λ e. absurd (let bad : true ≡ false = sym foreign ∙ ap (is_foreign p) e ∙ ap is_from_other (own_origin p i) in cc bad)) (λ z. absurd z) h

  -- PROPERTIES

  property_covered : (k : Key MadeSymbol) (d : Descriptor Ref MadeSymbol) → key_identities {R = Ref} k ≡ [] → Covered (descriptor_identities d) → Covered (property_identities (k, d))
  property_covered k d e h = both (key_identities k) (descriptor_identities d) (no_one (key_identities k) e) h

  written_covered : (k : Key MadeSymbol) (d : Descriptor Ref MadeSymbol) (ps : List Property) → key_identities {R = Ref} k ≡ [] → Covered (descriptor_identities d) → Covered (ids ps) → Covered (ids (written same_made_symbol k d ps))
  written_covered k d [] e hd hp = both (property_identities (k, d)) [] (property_covered k d e hd) none
  written_covered k d (x ∷ ps) e hd hp =
      by (same_key same_made_symbol k x.0) (goes_before k x.0) (written_covered k d ps e hd (last_part (property_identities x) (ids ps) hp))
    where
      front : Covered (property_identities x)
      front = first_part (property_identities x) (ids ps) hp

      by : (b c : Bool) → Covered (ids (written same_made_symbol k d ps)) → Covered (ids (if b then (x.0, d) ∷ ps else (if c then (k, d) ∷ x ∷ ps else x ∷ written same_made_symbol k d ps)))
      by true c rest = both (property_identities (x.0, d)) (ids ps) (both (key_identities x.0) (descriptor_identities d) (first_part (key_identities x.0) (descriptor_identities x.1) front) hd) (last_part (property_identities x) (ids ps) hp)
      by false true rest = both (property_identities (k, d)) (ids (x ∷ ps)) (property_covered k d e hd) hp
      by false false rest = both (property_identities x) (ids (written same_made_symbol k d ps)) front rest

  -- properties of names that name no more than the package may
  abbrev Fit : List Property → Type 0
  Fit [] = Unit {0}
  Fit (x ∷ xs) = ((key_identities {R = Ref} x.0 ≡ []) × Covered (descriptor_identities x.1)) × Fit xs

  all_written : (xs ps : List Property) → Fit xs → Covered (ids ps) → Covered (ids (with_properties xs ps))
  all_written [] ps f h = h
  all_written (x ∷ xs) ps f h = all_written xs (written same_made_symbol x.0 x.1 ps) f.1 (written_covered x.0 x.1 ps f.0.0 f.0.1 h)

  -- OBJECTS

  object_covered : (o : Thing) → Covered (option_identities ref_identities o.prototype) → Covered (ids o.properties) → Covered (slot_identities o.slot) → Covered (object_identities o)
  object_covered o hp hs hk = both (option_identities ref_identities o.prototype) (ids o.properties ++ slot_identities o.slot) hp (both (ids o.properties) (slot_identities o.slot) hs hk)

  frozen_covered : (ps : List Property) → Covered (ids ps) → Covered (object_identities (frozen_object ps))
  frozen_covered ps h = object_covered (frozen_object ps) (common_one OBJECT_PROTOTYPE) h none

  objects_both : (xs ys : List Thing) → Covered (objs xs) → Covered (objs ys) → Covered (objs (xs ++ ys))
  objects_both [] ys hx hy = hy
  objects_both (x ∷ xs) ys hx hy = both (object_identities x) (objs (xs ++ ys)) (first_part (object_identities x) (objs xs) hx) (objects_both xs ys (last_part (object_identities x) (objs xs) hx) hy)

  -- MEMBERS OF THE HOST'S OBJECTS

  abbrev MembersNamed : List (List ℕ × ℕ) → Type 0
  MembersNamed [] = Unit {0}
  MembersNamed (m ∷ ms) = IsAmong (Of_object (host_ref m.1)) ns × MembersNamed ms

  part_fits : (ms : List (List ℕ × ℕ)) → MembersNamed ms → Fit (map part_member ms)
  part_fits [] h = tt
  part_fits (m ∷ ms) h = ((nothing_in_name m.0, itself (Of_object (host_ref m.1)) h.0), part_fits ms h.1)

  part_covered : (ms : List (List ℕ × ℕ)) → MembersNamed ms → Covered (object_identities (part_object ms))
  part_covered ms h = frozen_covered (with_properties (map part_member ms) []) (all_written (map part_member ms) [] (part_fits ms h) none)

  -- LIVE ACCESSORS

  target_covered : (name : List ℕ) (member : Option (Key MadeSymbol)) → option_identities (key_identities {R = Ref}) member ≡ [] → IsAmong (Of_object root_global) ns → Covered (live_identities (target_of name member))
  target_covered name member e root =
      both (Of_object root_global ∷ []) (key_identities (key_of_name name) ++ option_identities key_identities member) (itself (Of_object root_global) root)
      (no_one (key_identities (key_of_name name) ++ option_identities key_identities member) (λ j. nothing_in_name name j ++ e j))

  function_covered : (h : Held Ref MadeSymbol) → Covered (held_identities h) → Covered (object_identities (live_function h))
  function_covered h k = object_covered (live_function h) (common_one FUNCTION_PROTOTYPE) none k

  live_covered : (t : Target Ref MadeSymbol) (write : Bool) → Covered (live_identities t) → Covered (objs (live_functions t write))
  live_covered t false h = both (object_identities (live_function (held.LiveGetter t))) [] (function_covered (held.LiveGetter t) h) none
  live_covered t true h =
      both (object_identities (live_function (held.LiveGetter t))) (objs (live_function (held.LiveSetter t) ∷ [])) (function_covered (held.LiveGetter t) h)
      (both (object_identities (live_function (held.LiveSetter t))) [] (function_covered (held.LiveSetter t) h) none)

  accessor_covered : (n : ℕ) (write configurable : Bool) → Covered (descriptor_identities (live_accessor p n write configurable))
  accessor_covered n false configurable = both (Of_object ((naming_of p).own n) ∷ []) [] (own_one n) none
  accessor_covered n true configurable = both (Of_object ((naming_of p).own n) ∷ []) (Of_object ((naming_of p).own (suc n)) ∷ []) (own_one n) (own_one (suc n))

  -- SUPPLIES

  -- what an item gives names no more than the package may, whatever its number
  record Gives {X : Type 0} (s : Supply X) (x : X) : Type 0 where
    name : key_identities {R = Ref} (s.key x) ≡ []
    made : (n : ℕ) → Covered (objs (s.objects n x))
    given : (n : ℕ) → Covered (descriptor_identities (s.property n x))

  abbrev AllGive : {X : Type 0} → Supply X → List X → Type 0
  AllGive s [] = Unit {0}
  AllGive s (x ∷ xs) = Gives s x × AllGive s xs

  supplied_fit : {X : Type 0} (s : Supply X) (n : ℕ) (xs : List X) → AllGive s xs → Fit (supplied_properties s n xs)
  supplied_fit s n [] h = tt
  supplied_fit s n (x ∷ xs) h = ((h.0.name, h.0.given n), supplied_fit s (n + length (s.objects n x)) xs h.1)

  supplied_covered : {X : Type 0} (s : Supply X) (n : ℕ) (xs : List X) → AllGive s xs → Covered (objs (supplied_objects s n xs))
  supplied_covered s n [] h = none
  supplied_covered s n (x ∷ xs) h = objects_both (s.objects n x) (supplied_objects s (n + length (s.objects n x)) xs) (h.0.made n) (supplied_covered s (n + length (s.objects n x)) xs h.1)

  member_gives : (name : List ℕ) (m : List ℕ × Bool) → IsAmong (Of_object root_global) ns → Gives (member_supply p name) m
  member_gives name m root = record {
    name = nothing_in_name m.0;
    made = λ n. live_covered (target_of name (Some (key_of_name m.0))) m.1 (target_covered name (Some (key_of_name m.0)) (nothing_in_name m.0) root);
    given = λ n. accessor_covered n m.1 false;
  }

  members_give : (name : List ℕ) (ms : List (List ℕ × Bool)) → (has_members ms ≡ true → IsAmong (Of_object root_global) ns) → AllGive (member_supply p name) ms
  members_give name [] h = tt
  members_give name (m ∷ ms) h = (member_gives name m (h refl), members_give name ms (λ e. h refl))

  live_part_covered : (n : ℕ) (name : List ℕ) (ms : List (List ℕ × Bool)) → (has_members ms ≡ true → IsAmong (Of_object root_global) ns) → Covered (objs (live_part_objects p n name ms))
  live_part_covered n name ms h =
      let s = member_supply p name in
      let ps = supplied_properties s (suc n) ms in
      let all = members_give name ms h in
      both (object_identities (frozen_object (with_properties ps []))) (objs (supplied_objects s (suc n) ms)) (frozen_covered (with_properties ps []) (all_written ps [] (supplied_fit s (suc n) ms all) none)) (supplied_covered s (suc n) ms all)

  -- GRANTS

  -- the host's objects in a grant are names of the package
  abbrev HostNamed : Grant → Type 0
  HostNamed (Whole k) = IsAmong (Of_object (host_ref k)) ns
  HostNamed (Part ms) = MembersNamed ms
  HostNamed (Live write) = Unit {0}
  HostNamed (LivePart ms) = Unit {0}

  abbrev LiveNamed : Grant → Type 0
  LiveNamed g = is_live g ≡ true → IsAmong (Of_object root_global) ns

  made_covered : (n : ℕ) (name : List ℕ) (g : Grant) → HostNamed g → LiveNamed g → Covered (objs (grant_objects p n name g))
  made_covered n name (Whole k) h l = none
  made_covered n name (Part ms) h l = both (object_identities (part_object ms)) [] (part_covered ms h) none
  made_covered n name (Live write) h l = live_covered (target_of name None) write (target_covered name None refl (l refl))
  made_covered n name (LivePart ms) h l = live_part_covered n name ms l

  given_covered : (n : ℕ) (g : Grant) → HostNamed g → Covered (descriptor_identities (grant_property p n g))
  given_covered n (Whole k) h = itself (Of_object (host_ref k)) h
  given_covered n (Part ms) h = own_one n
  given_covered n (Live write) h = accessor_covered n write true
  given_covered n (LivePart ms) h = own_one n

  abbrev AllNamed : (globals : Granted) → Type 0
  AllNamed [] = Unit {0}
  AllNamed (x ∷ xs) = (HostNamed x.1 × LiveNamed x.1) × AllNamed xs

  grants_give : (gs : Granted) → AllNamed gs → AllGive (global_supply p) gs
  grants_give [] h = tt
  grants_give (x ∷ xs) h =
      (record { name = nothing_in_name x.0; made = λ n. made_covered n x.0 x.1 h.0.0 h.0.1; given = λ n. given_covered n x.1 h.0.0 }, grants_give xs h.1)

  -- what `require` of a part of the host gives
  abbrev FirstNamed : (builtins : Granted) → Type 0
  FirstNamed [] = Unit {0}
  FirstNamed (x ∷ xs) = HostNamed x.1

  builtin_made_covered : (g : Grant) → HostNamed g → Covered (objs (builtin_grant_objects g))
  builtin_made_covered (Whole k) h = none
  builtin_made_covered (Part ms) h = both (object_identities (part_object ms)) [] (part_covered ms h) none
  builtin_made_covered (Live write) h = none
  builtin_made_covered (LivePart ms) h = none

  builtin_given_covered : (n : ℕ) (g : Grant) → HostNamed g → Covered (option_identities value_identities (builtin_grant_value p n g))
  builtin_given_covered n (Whole k) h = itself (Of_object (host_ref k)) h
  builtin_given_covered n (Part ms) h = own_one n
  builtin_given_covered n (Live write) h = none
  builtin_given_covered n (LivePart ms) h = none

  builtins_made_covered : (bs : Granted) → FirstNamed bs → Covered (objs (builtin_objects bs))
  builtins_made_covered [] h = none
  builtins_made_covered (x ∷ xs) h = builtin_made_covered x.1 h

  builtins_given_covered : (n : ℕ) (bs : Granted) → FirstNamed bs → Covered (option_identities value_identities (builtin_value p n bs))
  builtins_given_covered n [] h = none
  builtins_given_covered n (x ∷ xs) h = builtin_given_covered n x.1 h

  -- A PACKAGE

  defaults_covered : Covered (ids (default_properties (naming_of p) ++ []))
  defaults_covered a foreign h = at_home (ids (default_properties (naming_of p))) (default_home p) a foreign (subst (λ (ps : List Property). IsAmong a (ids ps)) (append-nil (default_properties (naming_of p))) h)

  global_covered : (gs : Granted) → AllNamed gs → Covered (object_identities (granted_global p gs))
  global_covered gs h =
      object_covered (granted_global p gs) (common_one OBJECT_PROTOTYPE)
      (all_written (supplied_properties (global_supply p) 1 gs) (default_properties (naming_of p) ++ []) (supplied_fit (global_supply p) 1 gs (grants_give gs h)) defaults_covered) none

  package_covered : (gs bs : Granted) → AllNamed gs → FirstNamed bs → Covered (package_identities p gs bs)
  package_covered gs bs hg hb =
      let made = supplied_objects (global_supply p) 1 gs in
      both (objs (package_objects p gs bs)) (option_identities value_identities (package_builtin p gs bs))
      (both (object_identities (granted_global p gs)) (objs (made ++ builtin_objects bs)) (global_covered gs hg) (objects_both made (builtin_objects bs) (supplied_covered (global_supply p) 1 gs (grants_give gs hg)) (builtins_made_covered bs hb)))
      (builtins_given_covered (suc (length made)) bs hb)

-- WHAT IS GRANTED IS NAMED

any_in : {A : Type 0} (f : A → Bool) (xs : List A) (x : A) → IsAmong x xs → f x ≡ true → list_any f xs ≡ true
any_in f [] x h e = absurd h
any_in f (y ∷ ys) x h e = ⊎_elim (λ s. ap (λ b. b || list_any f ys) (sym (ap f s) ∙ e)) (λ k. late (f y) (any_in f ys x k e)) h
  where
    late : (b : Bool) → list_any f ys ≡ true → (b || list_any f ys) ≡ true
    late true k = refl
    late false k = k

kept_in : (f : ℕ → Bool) (ks : List ℕ) (k : ℕ) → IsAmong k ks → f k ≡ true → IsAmong (Of_object (host_ref k)) (host_identities (filter f ks))
kept_in f [] k h e = absurd h
kept_in f (x ∷ xs) k h e = by (f x) refl (λ z. kept_in f xs k z e)
  where
    by : (b : Bool) → f x ≡ b → (IsAmong k xs → IsAmong (Of_object (host_ref k)) (host_identities (filter f xs))) → IsAmong (Of_object (host_ref k)) (host_identities (cond b (x ∷ filter f xs) (filter f xs)))
    by true q rest = ⊎_elim (λ s. inl (ap (λ n. Of_object (host_ref n)) s)) (λ z. inr (rest z)) h
    by false q rest = ⊎_elim (λ s. absurd (let bad : true ≡ false = sym e ∙ ap f s ∙ q in cc bad)) rest h

in_numbers : (c n d : ℕ) → d < c → IsAmong (n + d) (numbers_from n c)
in_numbers zero n d lt = absurd (omega arith)
in_numbers (suc c) n zero lt = inl (omega arith)
in_numbers (suc c) n (suc d) lt =
    let e : suc n + d ≡ n + suc d = omega arith in
    let l : d < c = omega arith in
    inr (subst (λ (k : ℕ). IsAmong k (numbers_from (suc n) c)) e (in_numbers c (suc n) d l))

in_first : (k : ℕ) → k < 12 → IsAmong k (numbers_from 0 12)
in_first k lt =
    let e : 0 + k ≡ k = omega arith in
    subst (λ (n : ℕ). IsAmong n (numbers_from 0 12)) e (in_numbers 12 0 k lt)

module _ (p : ℕ) (gs bs : Granted) where
  abbrev names : List (Identity Ref MadeSymbol)
  names = package_names gs bs

  host_named : (x : List ℕ × Grant) → IsAmong x (gs ++ bs) → (k : ℕ) → k < 12 → names_host k x.1 ≡ true → IsAmong (Of_object (host_ref k)) names
  host_named x h k lt e =
      in_front (Of_object (host_ref k)) (host_identities (filter (is_granted (gs ++ bs)) (numbers_from 0 12))) (root_identities (list_any (λ y. is_live y.1) gs))
      (kept_in (is_granted (gs ++ bs)) (numbers_from 0 12) k (in_first k lt) (any_in (λ y. names_host k y.1) (gs ++ bs) x h e))

  members_named : (name : List ℕ) (all ms : List (List ℕ × ℕ)) → IsAmong (name, Part all) (gs ++ bs) → ((m : List ℕ × ℕ) → IsAmong m ms → IsAmong m all) → MembersInRange ms → MembersNamed p names ms
  members_named name all [] h inside r = tt
  members_named name all (m ∷ ms) h inside r =
      (host_named (name, Part all) h m.1 r.0 (any_in (λ y. nat_eq y.1 m.1) all m (inside m (inl refl)) (eq-eqb m.1 m.1 refl)), members_named name all ms h (λ z k. inside z (inr k)) r.1)

  grant_named : (name : List ℕ) (g : Grant) → IsAmong (name, g) (gs ++ bs) → IsInRange g → HostNamed p names g
  grant_named name (Whole k) h r = host_named (name, Whole k) h k r (eq-eqb k k refl)
  grant_named name (Part ms) h r = members_named name ms ms h (λ m k. k) r
  grant_named name (Live write) h r = tt
  grant_named name (LivePart ms) h r = tt

  live_named : (x : List ℕ × Grant) → IsAmong x gs → LiveNamed p names x.1
  live_named x h e =
      behind (Of_object root_global) (host_identities (filter (is_granted (gs ++ bs)) (numbers_from 0 12))) (root_identities (list_any (λ y. is_live y.1) gs))
      (subst (λ b. IsAmong (Of_object root_global) (root_identities b)) (sym (any_in (λ y. is_live y.1) gs x h e)) (inl refl))

  all_named : (xs : Granted) → ((x : List ℕ × Grant) → IsAmong x xs → IsAmong x gs) → AreInRange xs → AllNamed p names xs
  all_named [] inside r = tt
  all_named (x ∷ xs) inside r =
      ((grant_named x.0 x.1 (in_front x gs bs (inside x (inl refl))) r.0, live_named x (inside x (inl refl))), all_named xs (λ z k. inside z (inr k)) r.1)

  first_named : (xs : Granted) → ((x : List ℕ × Grant) → IsAmong x xs → IsAmong x bs) → AreInRange xs → FirstNamed p names xs
  first_named [] inside r = tt
  first_named (x ∷ xs) inside r = grant_named x.0 x.1 (behind x gs bs (inside x (inl refl))) r.0

pub names_all : Package_names_all
names_all p gs bs r = package_covered p (package_names gs bs) gs bs (all_named p gs bs gs (λ x h. h) r.0) (first_named p gs bs bs (λ x h. h) r.1)

-- WHAT THE NAMES ARE

numbers_below : (c n k : ℕ) → IsAmong k (numbers_from n c) → k < n + c
numbers_below zero n k h = absurd h
numbers_below (suc c) n k h = ⊎_elim (λ e. omega (arith, e)) (λ z. let l : k < suc n + c = numbers_below c (suc n) k z in omega (arith, l)) h

host_object_of : (f : ℕ → Bool) (ks : List ℕ) → ((k : ℕ) → IsAmong k ks → k < 12) → (a : Identity Ref MadeSymbol) → IsAmong a (host_identities (filter f ks)) → IsHostObject a
host_object_of f [] within a h = absurd h
host_object_of f (x ∷ xs) within a h = by (f x) (host_object_of f xs (λ k z. within k (inr z)) a) h
  where
    by : (b : Bool) → (IsAmong a (host_identities (filter f xs)) → IsHostObject a) → IsAmong a (host_identities (cond b (x ∷ filter f xs) (filter f xs))) → IsHostObject a
    by true rest k = ⊎_elim (λ e. record { number = x; within = within x (inl refl); is = e }) rest k
    by false rest k = rest k

root_of : (b : Bool) (a : Identity Ref MadeSymbol) → IsAmong a (root_identities b) → a ≡ Of_object root_global
root_of false a h = absurd h
root_of true a h = ⊎_elim (λ e. e) (λ z. absurd z) h

pub names_known : Package_names_known
names_known gs bs a h =
    let f = is_granted (gs ++ bs) in
    let b = list_any (λ y. is_live y.1) gs in
    ⊎_elim
    (λ k. inl (host_object_of f (numbers_from 0 12) (λ n z. let l : n < 0 + 12 = numbers_below 12 0 n z in omega (arith, l)) a k))
    (λ k. inr (root_of b a k))
    (in_either a (host_identities (filter f (numbers_from 0 12))) (root_identities b) h)

-- THE APPLICATION'S OWN PACKAGE

pub root_granted : Root_is_granted_all
unfolding common_paths chars
root_granted = record {
  objects = refl;
  builtin = refl;
  names = refl;
  in_range = ((omega arith, (omega arith, (omega arith, tt))), (omega arith, tt));
}
