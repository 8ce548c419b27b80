-- What a `require` does.
use Rattle.std.proofs.Common.{◌≡◌, ℕ, suc, ◌<◌, ◌≤◌, Bool, true, false, List, [], ◌∷◌, length, map, nat_eq, slice_get, Option, Some, None, refl, sym, ap, ◌∙◌, subst, Result, Ok, Err, IfOk, OnOk, if◌then◌else◌}
use Rattle.std.specs.Map.{lookup}
use Rattle.std.specs.Option.{option_and_then, option_map}
use Rattle.std.proofs.lemmas.Bool.{lt-ltb, le-ltb}
use Rattle.std.proofs.lemmas.Option.{slice_get-map}
use Rattle.lava_base.specs.declared.ids.MadeSymbol.{MadeSymbol}
use Rattle.lava_base.specs.declared.ids.Ref.{Ref}
use Rattle.js_text.specs.Naming.{Naming, Origin, naming_of}
use Rattle.js_text.specs.Texts.{same_units}
use Rattle.js_text.specs.declared.text.TheConstants.{MAX_UNITS}
use Rattle.js_text.specs.declared.value.Value.{Value}
use Rattle.js_text.specs.declared.value.Value.TheVariants as value
use Rattle.js_desc.specs.declared.ask.Ask.{Ask}
use Rattle.js_desc.specs.declared.ask.Ask.TheVariants as ask
use Rattle.js_ordinary.specs.Origins.{object_of, there}
use Rattle.js_ordinary.specs.Targets.{object_seen, origin_of_target}
use Rattle.js_ordinary.specs.declared.target.Target.{Target}
use Rattle.js_store.specs.Frozen.{CommonObject, common_ref}
use Rattle.js_store.specs.Objects.{Object}
use Rattle.js_store.specs.declared.slot.Held.TheVariants as held
use Rattle.js_store.specs.declared.slot.Slot.{Slot}
use Rattle.js_store.specs.declared.slot.Slot.TheVariants as slot
use Rattle.js_code.specs.Tables.{Tables}
use Rattle.js_machine.specs.js_run.Acts.{Act, End, give, throws, with_value}
use Rattle.js_machine.specs.js_run.Completions as halt_kind
use Rattle.js_machine.specs.js_run.Decisions.{called_at, decides_ask, decides_by_slot, decides_object}
use Rattle.js_machine.specs.js_run.Faults.{error_object}
use Rattle.js_machine.specs.js_run.Modules.{evaluates_module, get_exports, imported_module, imports, imports_there, loaded_at, mapped, module_value, path_of, requires_by, requires_module, requires_path, requires_there, throws_plain_error}
use Rattle.js_machine.specs.js_run.Parties.{Party, Shared, made}
use Rattle.js_machine.specs.js_run.Requests.{candidates, directory_of, not_found_text, first_module, first_of, joined_parts, module_at, module_of, parts_of, walked, whole_request}
use Rattle.js_machine.specs.js_run.Runs.{answered, settle}
use Rattle.js_machine.specs.js_run.declared.intrinsics.TheConstants.{ERROR_PROTOTYPE}
use Rattle.js_machine.specs.Halts.{halt_number}
use Rattle.js_machine.specs.Packages.{loaded_of}
use Rattle.js_machine.specs.Evaluated.{IsImported, module_or, unbegun, waits_for_exports}
use Rattle.js_machine.specs.Requested.{begun_at, first_place, first_text, imported_place, mapped_given, module_in, module_path, place_at, place_from, place_there, request_in, requires_given, with_plain_error}
use Rattle.js_machine.specs.Steps.{Deed, LeadsTo, settles}
use Rattle.js_machine.specs.Views.{Around, Values, View, fitting, nexts_of, party_of}
use Rattle.js_machine.specs.Ways.{object_in, way_asked, way_called, way_collected, way_here, way_of}
use Rattle.js_machine.specs.declared.frame.Halt.TheVariants as halt
use Rattle.js_machine.specs.declared.frame.Mode.{Mode}
use Rattle.js_machine.specs.declared.frame.Mode.TheVariants as mode
use Rattle.js_machine.specs.declared.package.Module.{Module}
use Rattle.js_machine.specs.declared.ways.Way.{Way}
use Rattle.js_machine.specs.declared.ways.Way.TheVariants as way
use Rattle.js_machine.proofs.Leads.{led}
use Rattle.js_machine.proofs.Ways_laws.{nowhere, seen_there}

-- ONE WAY OR THE OTHER

pub chosen : {E : Type 0} (r : Result Mode E) (b c : Bool) (x y : Deed) (old new : View) → b ≡ c → b ≡ true → IfOk r (LeadsTo x old new) → IfOk r (LeadsTo (λ a. if c then x a else y a) old new)
chosen r b c x y old new e f h = subst (λ d. IfOk r (LeadsTo (λ a. if d then x a else y a) old new)) (sym f ∙ e) h

pub passed_by : {E : Type 0} (r : Result Mode E) (b c : Bool) (x y : Deed) (old new : View) → b ≡ c → b ≡ false → IfOk r (LeadsTo y old new) → IfOk r (LeadsTo (λ a. if c then x a else y a) old new)
passed_by r b c x y old new e f h = subst (λ d. IfOk r (LeadsTo (λ a. if d then x a else y a) old new)) (sym f ∙ e) h

-- NUMBERS OF MODULES

one_further : (b : Bool) (n : ℕ) (x y : Option ℕ) → option_map suc x ≡ y → option_map suc (if b then Some n else x) ≡ (if b then Some (suc n) else y)
one_further true n x y e = refl
one_further false n x y e = e

counted_on : (n : ℕ) (ms : List Module) (path : List ℕ) → option_map suc (place_from n ms path) ≡ place_from (suc n) ms path
counted_on n [] path = refl
counted_on n (m ∷ ms) path = one_further (same_units m.path path) n (place_from (suc n) ms path) (place_from (suc (suc n)) ms path) (counted_on (suc n) ms path)

module _ (c : Tables) where
  pub place_is : (ms : List Module) (path : List ℕ) → place_from 0 ms path ≡ module_of (map (loaded_of c) ms) path
  place_is [] path = refl
  place_is (m ∷ ms) path = ap (λ x. if same_units m.path path then Some 0 else x) (sym (counted_on 0 ms path) ∙ ap (option_map suc) (place_is ms path))

  first_is : (ms : List Module) (paths : List (List ℕ)) → first_place ms paths ≡ first_module (map (loaded_of c) ms) paths
  first_is ms [] = refl
  first_is ms (path ∷ paths) = λ j. first_of (place_is ms path j) (first_is ms paths j)

  there_is : (ms : List Module) (dir : Option (List (List ℕ))) → place_there ms (option_map joined_parts dir) ≡ option_and_then (λ parts. first_module (map (loaded_of c) ms) (candidates (joined_parts parts))) dir
  there_is ms None = refl
  there_is ms (Some parts) = first_is ms (candidates (joined_parts parts))

  pub at_is : (ms : List Module) (dir : List (List ℕ)) (path : List ℕ) → place_at ms dir path ≡ module_at (map (loaded_of c) ms) dir path
  at_is ms dir path = there_is ms (walked (parts_of path) (Some dir))

  module _ (names : Naming Ref MadeSymbol) where
    path_in : (o : Option Module) → module_path o ≡ path_of names (option_map (loaded_of c) o)
    path_in None = refl
    path_in (Some m) = refl

    pub path_is : (ms : List Module) (n : ℕ) → module_path (slice_get ms n) ≡ path_of names (slice_get (map (loaded_of c) ms) n)
    path_is ms n = path_in (slice_get ms n) ∙ ap (path_of names) (sym (slice_get-map (loaded_of c) ms n))

-- ERRORS OF NO OTHER KIND

abbrev act : Bool → List ℕ → View → Around → Act Ref MadeSymbol
act b t w a = if b then End halt_kind.Text else throws (value.Ref ((naming_of w.me).own (length w.objects))) (made (party_of a w) (error_object (naming_of w.me) (nat_eq w.me 0) ERROR_PROTOTYPE t))

abbrev Acts : Bool → List ℕ → View → View → Mode → Type 0
Acts b t old new m = LeadsTo (act b t old) old new m

pub plain_too_long : (t : List ℕ) (old : View) (m : Mode) → MAX_UNITS < length t → m ≡ mode.End (halt_number halt.Text) → LeadsTo (λ a. throws_plain_error (naming_of old.me) t (party_of a old)) old old m
plain_too_long t old m l e =
    let ended : Acts true t old old (mode.End (halt_number halt.Text)) = record { leads = λ a. refl; keeps = (refl, (refl, (refl, (refl, refl)))) } in
    subst (λ b. Acts b t old old m) (sym (lt-ltb _ _ l)) (subst (λ k. Acts true t old old k) (sym e) ended)

plain_fault : (t : List ℕ) (old new : View) (m : Mode) → length t ≤ MAX_UNITS → new ≡ with_plain_error t old → m ≡ mode.Throw → LeadsTo (λ a. throws_plain_error (naming_of old.me) t (party_of a old)) old new m
plain_fault t old new m l e d =
    let thrown : Acts false t old (with_plain_error t old) mode.Throw = record { leads = λ a. refl; keeps = (refl, (refl, (refl, (refl, refl)))) } in
    subst (λ b. Acts b t old new m) (sym (le-ltb _ _ l)) (led (act false t old) old (with_plain_error t old) new mode.Throw m thrown e d)

pub plain_thrown : {E : Type 0} (r : Result Mode E) (t s : List ℕ) (old new : View) → s ≡ t → length t ≤ MAX_UNITS → OnOk r (new ≡ with_plain_error s old) → IfOk r (λ m. m ≡ mode.Throw)
    → IfOk r (LeadsTo (λ a. throws_plain_error (naming_of old.me) t (party_of a old)) old new)
plain_thrown (Ok m) t s old new k l w d = plain_fault t old new m l (w ∙ ap (λ x. with_plain_error x old) k) d
plain_thrown (Err x) t s old new k l w d = tt

-- WHICH MODULE

pub no_module_there : (os : List (Object Ref MadeSymbol)) (cs : List CommonObject) (p : Origin) (o : Option Target) → option_map origin_of_target o ≡ there os cs p → o ≡ None → 0 ≡ module_in (object_of common_ref os cs p).slot
no_module_there os cs p o e f = let b = nowhere os cs p (sym e ∙ ap (option_map origin_of_target) f) in ap module_in (sym b.0)

pub module_there : (n : ℕ) (os : List (Object Ref MadeSymbol)) (cs : List CommonObject) (p : Origin) (o : Option Target) (t : Target) (s : Slot Ref MadeSymbol) → option_map origin_of_target o ≡ there os cs p → o ≡ Some t
    → s ≡ (object_seen os cs t).slot → n ≡ module_in s → n ≡ module_in (object_of common_ref os cs p).slot
module_there n os cs p o t s e f g h = h ∙ ap module_in (g ∙ ap (λ (x : Object Ref MadeSymbol). x.slot) (seen_there os cs t o p e f))

-- A `require` IS CALLED

module _ (names : Naming Ref MadeSymbol) (shared : Shared) (me : Ref) (p : Party Ref MadeSymbol) where
  by_args : (n : ℕ) (c : Bool) (this : Value Ref MadeSymbol) (args : Values) → called_at names shared me (slot.Held (held.Require n)) c this args p ≡ requires_given names n (first_text args) p
  by_args n c this (value.Text t ∷ more) = refl
  by_args n c this (v ∷ more) = refl
  by_args n c this [] = refl

  required : (s : Slot Ref MadeSymbol) (c : Bool) (this : Value Ref MadeSymbol) (args : Values) → way_called s c ≡ way.Module → called_at names shared me s c this args p ≡ requires_given names (module_in s) (first_text args) p
  required (slot.Held (held.Require n)) c this args e = by_args n c this args
  required (slot.Held held.ModuleMap) c this args e = cc
  required slot.Plain true this args e = cc
  required slot.Plain false this args e = cc
  required s c this args e = cc

  required_asked : (s : Slot Ref MadeSymbol) (c : Bool) (x : Ask Ref MadeSymbol) → way_asked s c x ≡ way.Module → decides_ask names shared me s c x p ≡ requires_given names (module_in s) (request_in x) p
  required_asked s c (ask.Call this args) e = required s c this args e
  required_asked s c x e = cc

  not_collected : (x : Ask Ref MadeSymbol) → way_collected x ≡ way.Module → ⊥
  not_collected (ask.Slot which args) e = cc
  not_collected x e = cc

  required_by_slot : (s : Slot Ref MadeSymbol) (c : Bool) (x : Ask Ref MadeSymbol) → way_of s c x ≡ way.Module → decides_by_slot names shared me s c x p ≡ requires_given names (module_in s) (request_in x) p
  required_by_slot (slot.Proxy q) c x e = cc
  required_by_slot (slot.Table es) c x e = absurd (not_collected x e)
  required_by_slot s c x e = required_asked s c x e

  mapped_args : (c : Bool) (this : Value Ref MadeSymbol) (args : Values) → called_at names shared me (slot.Held held.ModuleMap) c this args p ≡ mapped_given names (first_text args) p
  mapped_args c this (value.Text t ∷ more) = refl
  mapped_args c this (v ∷ more) = refl
  mapped_args c this [] = refl

  mapped_called : (s : Slot Ref MadeSymbol) (c : Bool) (this : Value Ref MadeSymbol) (args : Values) → way_called s c ≡ way.Mapped → called_at names shared me s c this args p ≡ mapped_given names (first_text args) p
  mapped_called (slot.Held (held.Require n)) c this args e = cc
  mapped_called (slot.Held held.ModuleMap) c this args e = mapped_args c this args
  mapped_called slot.Plain true this args e = cc
  mapped_called slot.Plain false this args e = cc
  mapped_called s c this args e = cc

  mapped_asked : (s : Slot Ref MadeSymbol) (c : Bool) (x : Ask Ref MadeSymbol) → way_asked s c x ≡ way.Mapped → decides_ask names shared me s c x p ≡ mapped_given names (request_in x) p
  mapped_asked s c (ask.Call this args) e = mapped_called s c this args e
  mapped_asked s c x e = cc

  none_collected : (x : Ask Ref MadeSymbol) → way_collected x ≡ way.Mapped → ⊥
  none_collected (ask.Slot which args) e = cc
  none_collected x e = cc

  mapped_by_slot : (s : Slot Ref MadeSymbol) (c : Bool) (x : Ask Ref MadeSymbol) → way_of s c x ≡ way.Mapped → decides_by_slot names shared me s c x p ≡ mapped_given names (request_in x) p
  mapped_by_slot (slot.Proxy q) c x e = cc
  mapped_by_slot (slot.Table es) c x e = absurd (none_collected x e)
  mapped_by_slot s c x e = mapped_asked s c x e

pub as_module : {E : Type 0} (r : Result Mode E) (me : Ref) (w : Way) (old new : View) → w ≡ way_here old me → w ≡ way.Module
    → IfOk r (LeadsTo (λ a. requires_given (naming_of old.me) (module_in (object_in old me).slot) (request_in old.asked.ask) (party_of a old)) old new)
    → IfOk r (LeadsTo (λ a. decides_object (naming_of old.me) a.shared me old.asked.ask (party_of a old)) old new)
as_module (Ok m) me w old new e f h =
    record {
      leads = λ a. (
          let b = fitting old a in
          let o = object_in old me in
          h.leads a ∙ ap (λ x. settles b old old.values (answered (naming_of old.me) b.env x)) (sym (required_by_slot (naming_of old.me) b.shared me (party_of b old) o.slot o.marks.callable old.asked.ask (sym e ∙ f))));
      keeps = h.keeps;
    }
as_module (Err x) me w old new e f h = tt

pub as_mapped : {E : Type 0} (r : Result Mode E) (me : Ref) (w : Way) (old new : View) → w ≡ way_here old me → w ≡ way.Mapped
    → IfOk r (LeadsTo (λ a. mapped_given (naming_of old.me) (request_in old.asked.ask) (party_of a old)) old new)
    → IfOk r (LeadsTo (λ a. decides_object (naming_of old.me) a.shared me old.asked.ask (party_of a old)) old new)
as_mapped (Ok m) me w old new e f h =
    record {
      leads = λ a. (
          let b = fitting old a in
          let o = object_in old me in
          h.leads a ∙ ap (λ x. settles b old old.values (answered (naming_of old.me) b.env x)) (sym (mapped_by_slot (naming_of old.me) b.shared me (party_of b old) o.slot o.marks.callable old.asked.ask (sym e ∙ f))));
      keeps = h.keeps;
    }
as_mapped (Err x) me w old new e f h = tt

-- WHERE A REQUEST LEADS

module _ (names : Naming Ref MadeSymbol) (c : Tables) (n : ℕ) (t : List ℕ) (p : Party Ref MadeSymbol) where
  first_required : (o : Option Module) → option_map (λ (m : Module). m.begun) o ≡ Some None → requires_there names t (Some n) (option_map (loaded_of c) o) p ≡ evaluates_module names n (record (loaded_of c (module_or o)) { begun = None }) p
  first_required None e = cc
  first_required (Some m) e = let b : m.begun ≡ None = cc in λ j. requires_module names n (record (loaded_of c m) { begun = b j }) (b j) p

  again_required : (k : ℕ) (o : Option Module) → option_map (λ (m : Module). m.begun) o ≡ Some (Some k) → requires_there names t (Some n) (option_map (loaded_of c) o) p ≡ waits_for_exports names k p
  again_required k None e = cc
  again_required k (Some m) e = let b : m.begun ≡ Some k = cc in λ j. requires_module names n (record (loaded_of c m) { begun = b j }) (b j) p

  none_required : (o : Option Module) → option_map (λ (m : Module). m.begun) o ≡ None → requires_there names t (Some n) (option_map (loaded_of c) o) p ≡ throws_plain_error names (not_found_text t) p
  none_required None e = refl
  none_required (Some m) e = cc

abbrev There : List ℕ → Option ℕ → View → Deed
There t n w = λ a. (let p = party_of a w in requires_there (naming_of w.me) t n (loaded_at (naming_of w.me) n p) p)

-- an act in the place of what a module that is there does
instead : {E : Type 0} (r : Result Mode E) (x : Deed) (n : ℕ) (t : List ℕ) (old new : View)
    → ((p : Party Ref MadeSymbol) → (a : Around) → p ≡ party_of a old → requires_there (naming_of old.me) t (Some n) (option_map (loaded_of old.code) (slice_get old.own_package.modules n)) p ≡ x a)
    → IfOk r (LeadsTo x old new) → IfOk r (LeadsTo (There t (Some n) old) old new)
instead (Ok m) x n t old new e h =
    record {
      leads = λ a. (
          let b = fitting old a in
          let p = party_of b old in
          h.leads a
          ∙ ap (λ y. settles b old old.values (answered (naming_of old.me) b.env y)) (sym (ap (λ o. requires_there (naming_of old.me) t (Some n) o p) (slice_get-map (loaded_of old.code) old.own_package.modules n) ∙ e p b refl)));
      keeps = h.keeps;
    }
instead (Err y) x n t old new e h = tt

pub not_begun : {E : Type 0} (r : Result Mode E) (n : ℕ) (t : List ℕ) (o : Option (Option ℕ)) (x : Option ℕ) (old new : View) → o ≡ begun_at old n → o ≡ Some x → x ≡ None
    → IfOk r (LeadsTo (λ a. evaluates_module (naming_of old.me) n (unbegun old n) (party_of a old)) old new) → IfOk r (LeadsTo (There t (Some n) old) old new)
not_begun r n t o x old new e f g h =
    instead r (λ a. evaluates_module (naming_of old.me) n (unbegun old n) (party_of a old)) n t old new
    (λ p a i. first_required (naming_of old.me) old.code n t p (slice_get old.own_package.modules n) (sym e ∙ f ∙ ap (λ y. Some y) g) ∙ ap (evaluates_module (naming_of old.me) n (unbegun old n)) i) h

pub has_begun : {E : Type 0} (r : Result Mode E) (n k : ℕ) (t : List ℕ) (o : Option (Option ℕ)) (x : Option ℕ) (old new : View) → o ≡ begun_at old n → o ≡ Some x → x ≡ Some k
    → IfOk r (LeadsTo (λ a. waits_for_exports (naming_of old.me) k (party_of a old)) old new) → IfOk r (LeadsTo (There t (Some n) old) old new)
has_begun r n k t o x old new e f g h =
    instead r (λ a. waits_for_exports (naming_of old.me) k (party_of a old)) n t old new
    (λ p a i. again_required (naming_of old.me) old.code n t p k (slice_get old.own_package.modules n) (sym e ∙ f ∙ ap (λ y. Some y) g) ∙ ap (waits_for_exports (naming_of old.me) k) i) h

pub no_module_so : {E : Type 0} (r : Result Mode E) (n : ℕ) (t : List ℕ) (o : Option (Option ℕ)) (old new : View) → o ≡ begun_at old n → o ≡ None
    → IfOk r (LeadsTo (λ a. throws_plain_error (naming_of old.me) (not_found_text t) (party_of a old)) old new) → IfOk r (LeadsTo (There t (Some n) old) old new)
no_module_so r n t o old new e f h =
    instead r (λ a. throws_plain_error (naming_of old.me) (not_found_text t) (party_of a old)) n t old new
    (λ p a i. none_required (naming_of old.me) old.code n t p (slice_get old.own_package.modules n) (sym e ∙ f) ∙ ap (throws_plain_error (naming_of old.me) (not_found_text t)) i) h

-- a path that is relative to a module
pub path_required : {E : Type 0} (r : Result Mode E) (n : ℕ) (t path slice : List ℕ) (dir : List (List ℕ)) (there : Option ℕ) (old new : View) → path ≡ module_path (slice_get old.own_package.modules n) → slice ≡ path → dir ≡ directory_of slice
    → there ≡ place_at old.own_package.modules dir t → IfOk r (LeadsTo (There t there old) old new)
    → IfOk r (LeadsTo (λ a. requires_path (naming_of old.me) (module_path (slice_get old.own_package.modules n)) t (party_of a old)) old new)
path_required r n t path slice dir there old new e f g d h =
    let from : dir ≡ directory_of (module_path (slice_get old.own_package.modules n)) = g ∙ ap directory_of (f ∙ e) in
    subst (λ x. IfOk r (LeadsTo (There t x old) old new)) (d ∙ ap (λ x. place_at old.own_package.modules x t) from ∙ at_is old.code old.own_package.modules (directory_of (module_path (slice_get old.own_package.modules n))) t) h

-- a call with a request
pub given_required : {E : Type 0} (r : Result Mode E) (n k : ℕ) (o : Option (List ℕ)) (t units slice : List ℕ) (x : Ask Ref MadeSymbol) (old new : View) → n ≡ k → o ≡ request_in x → o ≡ Some t → units ≡ t → slice ≡ units
    → IfOk r (LeadsTo (λ a. requires_by (naming_of old.me) (module_path (slice_get old.own_package.modules n)) slice (party_of a old)) old new) → IfOk r (LeadsTo (λ a. requires_given (naming_of old.me) k (request_in x) (party_of a old)) old new)
given_required r n k o t units slice x old new e f g i j h =
    let w = subst (λ y. IfOk r (LeadsTo (λ a. requires_by (naming_of old.me) (module_path (slice_get old.own_package.modules n)) y (party_of a old)) old new)) (j ∙ i) h in
    let w = subst (λ y. IfOk r (LeadsTo (λ a. requires_by (naming_of old.me) (module_path (slice_get old.own_package.modules y)) t (party_of a old)) old new)) e w in
    let w = subst (λ y. IfOk r (LeadsTo (λ a. requires_by (naming_of old.me) y t (party_of a old)) old new)) (path_is old.code (naming_of old.me) old.own_package.modules k) w in
    subst (λ y. IfOk r (LeadsTo (λ a. requires_given (naming_of old.me) k y (party_of a old)) old new)) (sym g ∙ f) w

pub none_mapped : {E : Type 0} (r : Result Mode E) (o : Option (Value Ref MadeSymbol)) (t units slice : List ℕ) (old new : View) → o ≡ lookup (same_units t) old.own_package.mapped → o ≡ None → units ≡ t → slice ≡ units
    → IfOk r (LeadsTo (λ a. throws_plain_error (naming_of old.me) (not_found_text slice) (party_of a old)) old new) → IfOk r (LeadsTo (λ a. mapped (naming_of old.me) t (lookup (same_units t) old.own_package.mapped) (party_of a old)) old new)
none_mapped r o t units slice old new e f g i h =
    let w = subst (λ y. IfOk r (LeadsTo (λ a. throws_plain_error (naming_of old.me) (not_found_text y) (party_of a old)) old new)) (i ∙ g) h in
    subst (λ y. IfOk r (LeadsTo (λ a. mapped (naming_of old.me) t y (party_of a old)) old new)) (sym f ∙ e) w

-- WHAT ANOTHER PARTY IMPORTS

module _ (names : Naming Ref MadeSymbol) (c : Tables) (n : ℕ) (t : List ℕ) (p : Party Ref MadeSymbol) where
  first_imported : (o : Option Module) → option_map (λ (m : Module). m.begun) o ≡ Some None → imports_there names t (Some n) (option_map (loaded_of c) o) p ≡ evaluates_module names n (record (loaded_of c (module_or o)) { begun = None }) p
  first_imported None e = cc
  first_imported (Some m) e = let b : m.begun ≡ None = cc in λ j. module_value names n (record (loaded_of c m) { begun = b j }) (b j) p

  again_imported : (k : ℕ) (o : Option Module) → option_map (λ (m : Module). m.begun) o ≡ Some (Some k) → imports_there names t (Some n) (option_map (loaded_of c) o) p ≡ get_exports names k p (with_value give)
  again_imported k None e = cc
  again_imported k (Some m) e = let b : m.begun ≡ Some k = cc in λ j. module_value names n (record (loaded_of c m) { begun = b j }) (b j) p

abbrev Imported : List ℕ → Option ℕ → View → Deed
Imported t n w = λ a. (let p = party_of a w in imports_there (naming_of w.me) t n (loaded_at (naming_of w.me) n p) p)

-- an act in the place of what an import of a module that is there does
in_place : {E : Type 0} (r : Result Mode E) (x : Deed) (n : ℕ) (t : List ℕ) (old new : View)
    → ((p : Party Ref MadeSymbol) → (a : Around) → p ≡ party_of a old → imports_there (naming_of old.me) t (Some n) (option_map (loaded_of old.code) (slice_get old.own_package.modules n)) p ≡ x a)
    → IfOk r (LeadsTo x old new) → IfOk r (LeadsTo (Imported t (Some n) old) old new)
in_place (Ok m) x n t old new e h =
    record {
      leads = λ a. (
          let b = fitting old a in
          let p = party_of b old in
          h.leads a
          ∙ ap (λ y. settles b old old.values (answered (naming_of old.me) b.env y)) (sym (ap (λ o. imports_there (naming_of old.me) t (Some n) o p) (slice_get-map (loaded_of old.code) old.own_package.modules n) ∙ e p b refl)));
      keeps = h.keeps;
    }
in_place (Err y) x n t old new e h = tt

pub begins_import : {E : Type 0} (r : Result Mode E) (n : ℕ) (t : List ℕ) (o : Option (Option ℕ)) (x : Option ℕ) (old new : View) → o ≡ begun_at old n → o ≡ Some x → x ≡ None
    → IfOk r (LeadsTo (λ a. evaluates_module (naming_of old.me) n (unbegun old n) (party_of a old)) old new) → IfOk r (LeadsTo (Imported t (Some n) old) old new)
begins_import r n t o x old new e f g h =
    in_place r (λ a. evaluates_module (naming_of old.me) n (unbegun old n) (party_of a old)) n t old new
    (λ p a i. first_imported (naming_of old.me) old.code n t p (slice_get old.own_package.modules n) (sym e ∙ f ∙ ap (λ y. Some y) g) ∙ ap (evaluates_module (naming_of old.me) n (unbegun old n)) i) h

pub imports_again : {E : Type 0} (r : Result Mode E) (n k : ℕ) (t : List ℕ) (o : Option (Option ℕ)) (x : Option ℕ) (old new : View) → o ≡ begun_at old n → o ≡ Some x → x ≡ Some k
    → IfOk r (LeadsTo (λ a. get_exports (naming_of old.me) k (party_of a old) (with_value give)) old new) → IfOk r (LeadsTo (Imported t (Some n) old) old new)
imports_again r n k t o x old new e f g h =
    in_place r (λ a. get_exports (naming_of old.me) k (party_of a old) (with_value give)) n t old new
    (λ p a i. again_imported (naming_of old.me) old.code n t p k (slice_get old.own_package.modules n) (sym e ∙ f ∙ ap (λ y. Some y) g) ∙ ap (λ q. get_exports (naming_of old.me) k q (with_value give)) i) h

place_imported : (w : View) (path : List ℕ) (a : Around) → imported_place w.own_package.modules w.own_package.main path ≡ imported_module (naming_of w.me) path (party_of a w)
place_imported w [] a = place_is w.code w.own_package.modules w.own_package.main
place_imported w (u ∷ us) a = at_is w.code w.own_package.modules [] (u ∷ us)

pub import_led : {E : Type 0} (r : Result Mode E) (link path request slice name units : List ℕ) (n : Option ℕ) (old new : View) → name ≡ link → units ≡ path → request ≡ whole_request name units → slice ≡ request
    → n ≡ imported_place old.own_package.modules old.own_package.main units → IfOk r (LeadsTo (Imported slice n old) old new) → IfOk r (LeadsTo (λ a. imports (naming_of old.me) link path (party_of a old)) old new)
import_led (Ok m) link path request slice name units n old new e f g i d h =
    let w = subst (λ t. LeadsTo (Imported t n old) old new m) (i ∙ g ∙ (λ j. whole_request (e j) (f j))) h in
    record {
      leads = λ a. (
          let b = fitting old a in
          let p = party_of b old in
          w.leads a
          ∙ ap (λ x. settles b old old.values (answered (naming_of old.me) b.env (imports_there (naming_of old.me) (whole_request link path) x (loaded_at (naming_of old.me) x p) p)))
          (d ∙ ap (λ y. imported_place old.own_package.modules old.own_package.main y) f ∙ place_imported old path b));
      keeps = w.keeps;
    }
import_led (Err x) link path request slice name units n old new e f g i d h = tt

pub is_imported : {E : Type 0} (r : Result Mode E) (link path : List ℕ) (old new : View) → old.frames ≡ [] → IfOk r (LeadsTo (λ a. imports (naming_of old.me) link path (party_of a old)) old new) → IfOk r (IsImported link path old new)
is_imported (Ok m) link path old new f h =
    record {
      stands = λ a. (let b = fitting old a in
          h.leads a
          ∙ ap (λ fs. settle (naming_of old.me) b.shared b.env (nexts_of (naming_of old.me) b.shared old.code fs old.values old.waits) (answered (naming_of old.me) b.env (imports (naming_of old.me) link path (party_of b old)))) f);
      keeps = h.keeps;
    }
is_imported (Err x) link path old new f h = tt
