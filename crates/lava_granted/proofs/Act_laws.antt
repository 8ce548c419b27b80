-- What a call of `require` comes to: which of its ways makes an Error `LavaMoat - not allowed`.
use Rattle.std.proofs.Common.{◌≡◌, ◌⊎◌, ◌≤◌, ℕ, Bool, true, false, nat_lt, List, [], ◌∷◌, ◌++◌, length, Option, Some, None, refl, ap, subst, inl, inr, arith, if◌then◌else◌}
use Rattle.std.proofs.lemmas.Bool.{cond-true, le-ltb}
use Rattle.std.proofs.lemmas.List.{append_cancel_left, append_cancel_right}
use Rattle.std.specs.Prelude.{codes, is_some, slice_get, slice_index}
use Rattle.js_desc.specs.declared.ask.Ask.{Ask}
use Rattle.js_desc.specs.declared.ask.Ask.TheVariants as ask
use Rattle.js_desc.specs.declared.descriptor.Descriptor.{Descriptor}
use Rattle.js_desc.specs.declared.descriptor.Descriptor.TheVariants.{Accessor, Data}
use Rattle.js_desc.specs.declared.fault.FaultText.TheVariants as fault
use Rattle.js_desc.specs.declared.reply.Reply.TheVariants as reply
use Rattle.js_store.specs.Objects.{Object}
use Rattle.js_text.specs.Naming.{Naming, Origin, Own, Common, Foreign}
use Rattle.js_text.specs.declared.text.TheConstants.{MAX_UNITS}
use Rattle.js_text.specs.declared.value.Key.{Key}
use Rattle.js_text.specs.declared.value.Value.{Value}
use Rattle.js_text.specs.declared.value.Value.TheVariants as value
use Rattle.lava_base.specs.declared.ids.MadeSymbol.{MadeSymbol}
use Rattle.lava_base.specs.declared.ids.Ref.{Ref}
use Rattle.lava_packages.specs.lava_start.js_run.Acts.{Act, Closes, End, Import, Next, ask_there, give, throws, with_value}
use Rattle.lava_packages.specs.lava_start.js_run.Asking.{open_one}
use Rattle.lava_packages.specs.lava_start.js_run.Completions as halt
use Rattle.lava_packages.specs.lava_start.js_run.Completions.{Replied}
use Rattle.lava_packages.specs.lava_start.js_run.Faults.{error_object, faults, throws_error_of}
use Rattle.lava_packages.specs.lava_start.js_run.Modules.{exports_key, not_allowed, path_of, requires, requires_builtin, requires_module, requires_package, requires_path, requires_there, throws_plain_error}
use Rattle.lava_packages.specs.lava_start.js_run.Parties.{Loaded, Party, deeper, made}
use Rattle.lava_packages.specs.lava_start.js_run.Requests.{is_builtin, is_link, is_relative, link_of, not_allowed_text, not_found_text, parts_of}
use Rattle.lava_packages.specs.lava_start.js_run.Runs.{Asks_out, Env, Gives, Imports, Move, answered, sent_there}
use Rattle.lava_packages.specs.lava_start.js_run.declared.TheConstants.{MAX_DEPTH}
use Rattle.lava_packages.specs.lava_start.js_run.declared.intrinsics.TheConstants.{ERROR_PROTOTYPE, TYPE_ERROR_PROTOTYPE}
use Rattle.lava_granted.specs.LiteralRequests.{all_links_allowed, throws_not_allowed}

abbrev State : Type 0
State = Party Ref MadeSymbol

abbrev Deed : Type 0
Deed = Act Ref MadeSymbol

-- TEXTS OF ERRORS

same_request : (name a b : List ℕ) → not_allowed_text name a ≡ not_allowed_text name b → a ≡ b
same_request name a b e =
    let front : List ℕ = (codes "LavaMoat - not allowed: package \"" ++ name) ++ codes "\" requests \"" in
    append_cancel_left front a b (append_cancel_right (front ++ a) (front ++ b) (codes "\"") e)

not_that : (request name other : List ℕ) → not_found_text request ≡ not_allowed_text name other → ⊥
not_that request name other e = let clash : 67 ≡ 76 = ap (λ t. slice_index t 0) e in absurd (omega (arith, clash))

-- the text of an error, which is its first property
value_text : Value Ref MadeSymbol → List ℕ
value_text (value.Text t) = t
value_text _ = []

data_text : Descriptor Ref MadeSymbol → List ℕ
data_text (Data v w e c) = value_text v
data_text (Accessor g s e c) = []

first_text : List (Key MadeSymbol × Descriptor Ref MadeSymbol) → List ℕ
first_text [] = []
first_text (x ∷ xs) = data_text x.1

object_text : List (Object Ref MadeSymbol) → List ℕ
object_text [] = []
object_text (o ∷ os) = first_text o.properties

state_of : State → Move Ref MadeSymbol → State
state_of other (Gives c p) = p
state_of other _ = other

module _ (names : Naming Ref MadeSymbol) (env : Env Ref) where
  abbrev Comes : Deed → Move Ref MadeSymbol
  Comes a = answered names env a

  abbrev Thrown : (request : List ℕ) → State → Deed → Type 0
  Thrown request q a = Comes a ≡ throws_not_allowed names request q

  -- ERRORS

  made_text : (frozen : Bool) (proto other : ℕ) (text told : List ℕ) (q : State) → made q (error_object names frozen proto text) ≡ made q (error_object names frozen other told) → text ≡ told
  unfolding object_text first_text data_text value_text
  made_text frozen proto other text told q e =
      let x = error_object names frozen proto text in
      let y = error_object names frozen other told in
      ap object_text (append_cancel_left q.objects (x ∷ []) (y ∷ []) (ap (λ (p : State). p.objects) e))

  error_told : (text told : List ℕ) (proto : ℕ) (q : State) (long : Bool) → Comes (if long then End halt.Text else throws (value.Ref (names.own (length q.objects))) (made q (error_object names q.frozen_errors proto text)))
      ≡ Gives (Replied (reply.Throw (value.Ref (names.own (length q.objects))))) (made q (error_object names q.frozen_errors ERROR_PROTOTYPE told)) → text ≡ told
  unfolding state_of
  error_told text told proto q true e = absurd (cc)
  error_told text told proto q false e = made_text q.frozen_errors proto ERROR_PROTOTYPE text told q (ap (state_of q) e)

  thrown_text : (text request : List ℕ) (proto : ℕ) (q : State) → Thrown request q (throws_error_of names proto text q) → text ≡ not_allowed_text q.name request
  thrown_text text request proto q e = error_told text (not_allowed_text q.name request) proto q (nat_lt MAX_UNITS (length text)) e

  not_found_is_other : (text request : List ℕ) (q : State) → Thrown request q (throws_plain_error names (not_found_text text) q) → ⊥
  not_found_is_other text request q e = not_that text q.name request (thrown_text (not_found_text text) request ERROR_PROTOTYPE q e)

  told_request : (text request : List ℕ) (q : State) → Thrown request q (not_allowed names text q) → text ≡ request
  told_request text request q e = same_request q.name text request (thrown_text (not_allowed_text q.name text) request ERROR_PROTOTYPE q e)

  -- what is not allowed throws the Error, where its text is no longer than texts may be
  pub not_allowed_throws : (request : List ℕ) (q : State) → length (not_allowed_text q.name request) ≤ MAX_UNITS → Thrown request q (not_allowed names request q)
  not_allowed_throws request q few =
      let text = not_allowed_text q.name request in
      let throw = throws (value.Ref (names.own (length q.objects))) (made q (error_object names q.frozen_errors ERROR_PROTOTYPE text)) in
      ap (λ b. Comes (if b then End halt.Text else throw)) (le-ltb MAX_UNITS (length text) few)

  -- WAYS THAT MAKE NO SUCH ERROR

  asks_none : (w : Origin) (o : Ref) (x : Ask Ref MadeSymbol) (p q : State) (k : Next Ref MadeSymbol) (request : List ℕ) → Thrown request q (ask_there w o x p k) → ⊥
  asks_none (Own i) o x p q k request e = cc
  asks_none (Common c) o x p q k request e = cc
  asks_none Foreign o x p q k request e = sent_none (names.origin o) o x p q k request e
    where
      sent_none : (w : Origin) (o : Ref) (x : Ask Ref MadeSymbol) (p q : State) (k : Next Ref MadeSymbol) (request : List ℕ) → sent_there w o x p k ≡ throws_not_allowed names request q → ⊥
      sent_none (Own i) o x p q k request e = cc
      sent_none (Common c) o x p q k request e = cc
      sent_none Foreign o x p q k request e = cc

  opens_none : (b : Bool) (a : Deed) (q : State) (request : List ℕ) → (Thrown request q a → ⊥) → Thrown request q (if b then a else End halt.Depth) → ⊥
  opens_none true a q request h e = h e
  opens_none false a q request h e = cc

  module_none : (n : ℕ) (m : Loaded) (begun : Option ℕ) (q : State) (request : List ℕ) → Thrown request q (requires_module names n m begun q) → ⊥
  module_none n m None q request e = opens_none (nat_lt q.depth MAX_DEPTH) _ q request (λ d. cc) e
  module_none n m (Some o) q request e =
      opens_none (nat_lt q.depth MAX_DEPTH) _ q request
      (asks_none (names.origin (names.own o)) (names.own o) (ask.Get exports_key (value.Ref (names.own o))) (deeper q) q (Closes (with_value give)) request) e

  there_none : (text : List ℕ) (n : Option ℕ) (m : Option Loaded) (q : State) (request : List ℕ) → Thrown request q (requires_there names text n m q) → ⊥
  there_none text (Some n) (Some m) q request e = module_none n m m.begun q request e
  there_none text (Some n) None q request e = not_found_is_other text request q e
  there_none text None (Some m) q request e = not_found_is_other text request q e
  there_none text None None q request e = not_found_is_other text request q e

  path_none : (path text : List ℕ) (q : State) (request : List ℕ) → Thrown request q (requires_path names path text q) → ⊥
  path_none path text q request e = there_none text _ _ q request e

  -- WAYS THAT MAKE ONE

  -- a request is of the built-in module, which is not there, or of a package that may not be imported
  pub record IsDenied (text : List ℕ) (q : State) : Type 0 where
    pub path : is_relative text ≡ false
    pub why : ((is_builtin text ≡ true) × (is_some q.builtin ≡ false))
        ⊎ ((is_builtin text ≡ false) × (is_link (link_of (parts_of text)).0 q.links ≡ true) × (env.allows (link_of (parts_of text)).0 ≡ false))

  builtin_told : (text : List ℕ) (o : Option (Value Ref MadeSymbol)) (q : State) (request : List ℕ) → q.builtin ≡ o → Thrown request q (requires_builtin names text o q) → (is_some q.builtin ≡ false) × (text ≡ request)
  builtin_told text None q request at e = (ap is_some at, told_request text request q e)
  builtin_told text (Some v) q request at e = absurd (cc)

  import_told : (text : List ℕ) (l : List ℕ × List ℕ) (allow : Bool) (p q : State) (k : Next Ref MadeSymbol) (request : List ℕ) → env.allows l.0 ≡ allow
      → (if allow then Asks_out (Imports l.0 l.1) p k else Comes (not_allowed names text q)) ≡ throws_not_allowed names request q → (env.allows l.0 ≡ false) × (text ≡ request)
  import_told text l true p q k request at e = absurd (cc)
  import_told text l false p q k request at e = (at, told_request text request q e)

  open_told : (text : List ℕ) (l : List ℕ × List ℕ) (b : Bool) (p q : State) (k : Next Ref MadeSymbol) (request : List ℕ)
      → Thrown request q (if b then Import l.0 l.1 (not_allowed names text q) p k else End halt.Depth) → (env.allows l.0 ≡ false) × (text ≡ request)
  open_told text l true p q k request e = import_told text l (env.allows l.0) p q k request refl e
  open_told text l false p q k request e = absurd (cc)

  package_told : (text : List ℕ) (l : List ℕ × List ℕ) (linked : Bool) (q : State) (request : List ℕ) → is_link l.0 q.links ≡ linked
      → Thrown request q (if linked then open_one q (λ p. Import l.0 l.1 (not_allowed names text q) p (Closes (with_value give))) else throws_plain_error names (not_found_text text) q)
      → (is_link l.0 q.links ≡ true) × (env.allows l.0 ≡ false) × (text ≡ request)
  package_told text l true q request at e =
      let both = open_told text l (nat_lt q.depth MAX_DEPTH) (deeper q) q (Closes (with_value give)) request e in (at, both.0, both.1)
  package_told text l false q request at e = absurd (not_found_is_other text request q e)

  by_told : (path text : List ℕ) (q : State) (request : List ℕ) (rel built : Bool) → is_relative text ≡ rel → is_builtin text ≡ built
      → Thrown request q (if rel then requires_path names path text q else (if built then requires_builtin names text q.builtin q else requires_package names text (link_of (parts_of text)) q))
      → IsDenied text q × (text ≡ request)
  by_told path text q request true built r b e = absurd (path_none path text q request e)
  by_told path text q request false true r b e =
      let both = builtin_told text q.builtin q request refl e in (record { path = r; why = inl (b, both.0) }, both.1)
  by_told path text q request false false r b e =
      let l = link_of (parts_of text) in
      let all = package_told text l (is_link l.0 q.links) q request refl e in (record { path = r; why = inr (b, all.0, all.1) }, all.2)

  faults_none : (q : State) (request : List ℕ) → Thrown request q (faults names fault.CannotConvert q) → ⊥
  faults_none q request e =
      let clash : 99 ≡ 76 = ap (λ t. slice_index t 0) (thrown_text (codes "cannot convert") request TYPE_ERROR_PROTOTYPE q e) in absurd (omega (arith, clash))

  -- an Error that is thrown names the text of the call, and that is denied
  pub thrown_by : (n : ℕ) (args : List (Value Ref MadeSymbol)) (q : State) (request : List ℕ) → Thrown request q (requires names n args q) → IsDenied request q
  thrown_by n [] q request e = absurd (faults_none q request e)
  thrown_by n (value.Text text ∷ more) q request e =
      let both = by_told (path_of names (slice_get q.modules n)) text q request (is_relative text) (is_builtin text) refl refl e in
      subst (λ t. IsDenied t q) both.1 both.0
  thrown_by n (v ∷ more) q request e = absurd (faults_none q request e)

  -- WHERE EACH LINK IS ALLOWED

  abbrev Same : Deed → Type 0
  Same a = answered names env a ≡ answered names (all_links_allowed env) a

  same_if : (b : Bool) (x y : Deed) → Same x → Same y → Same (if b then x else y)
  same_if true x y h k = h
  same_if false x y h k = k

  same_ask : (w : Origin) (o : Ref) (x : Ask Ref MadeSymbol) (p : State) (k : Next Ref MadeSymbol) → Same (ask_there w o x p k)
  same_ask (Own i) o x p k = refl
  same_ask (Common c) o x p k = refl
  same_ask Foreign o x p k = refl

  same_error : (text : List ℕ) (q : State) → Same (throws_plain_error names text q)
  same_error text q = same_if (nat_lt MAX_UNITS (length text)) _ _ refl refl

  same_module : (n : ℕ) (m : Loaded) (begun : Option ℕ) (q : State) → Same (requires_module names n m begun q)
  same_module n m None q = same_if (nat_lt q.depth MAX_DEPTH) _ _ refl refl
  same_module n m (Some o) q =
      same_if (nat_lt q.depth MAX_DEPTH) _ _ (same_ask (names.origin (names.own o)) (names.own o) (ask.Get exports_key (value.Ref (names.own o))) (deeper q) (Closes (with_value give))) refl

  same_there : (text : List ℕ) (n : Option ℕ) (m : Option Loaded) (q : State) → Same (requires_there names text n m q)
  same_there text (Some n) (Some m) q = same_module n m m.begun q
  same_there text (Some n) None q = same_error (not_found_text text) q
  same_there text None (Some m) q = same_error (not_found_text text) q
  same_there text None None q = same_error (not_found_text text) q

  same_builtin : (text : List ℕ) (o : Option (Value Ref MadeSymbol)) (q : State) → Same (requires_builtin names text o q)
  same_builtin text None q = same_error (not_allowed_text q.name text) q
  same_builtin text (Some v) q = refl

  same_import : (link path : List ℕ) (a : Deed) (p : State) (k : Next Ref MadeSymbol) → env.allows link ≡ true → Same (Import link path a p k)
  same_import link path a p k e = cond-true (env.allows link) _ _ e

  same_package : (text : List ℕ) (l : List ℕ × List ℕ) (linked : Bool) (q : State) → is_link l.0 q.links ≡ linked → (is_link l.0 q.links ≡ true → env.allows l.0 ≡ true)
      → Same (if linked then open_one q (λ p. Import l.0 l.1 (not_allowed names text q) p (Closes (with_value give))) else throws_plain_error names (not_found_text text) q)
  same_package text l true q at h = same_if (nat_lt q.depth MAX_DEPTH) _ _ (same_import l.0 l.1 (not_allowed names text q) (deeper q) (Closes (with_value give)) (h at)) refl
  same_package text l false q at h = same_error (not_found_text text) q

  same_by : (path text : List ℕ) (q : State) (rel built : Bool) → is_builtin text ≡ built
      → (is_builtin text ≡ false → is_link (link_of (parts_of text)).0 q.links ≡ true → env.allows (link_of (parts_of text)).0 ≡ true)
      → Same (if rel then requires_path names path text q else (if built then requires_builtin names text q.builtin q else requires_package names text (link_of (parts_of text)) q))
  same_by path text q true built b h = same_there text _ _ q
  same_by path text q false true b h = same_builtin text q.builtin q
  same_by path text q false false b h = let l = link_of (parts_of text) in same_package text l (is_link l.0 q.links) q refl (h b)

  -- a call whose link is allowed, where its text has one, is what it is where each link is allowed
  pub same_call : (n : ℕ) (text : List ℕ) (more : List (Value Ref MadeSymbol)) (q : State)
      → (is_builtin text ≡ false → is_link (link_of (parts_of text)).0 q.links ≡ true → env.allows (link_of (parts_of text)).0 ≡ true)
      → Same (requires names n (value.Text text ∷ more) q)
  same_call n text more q h = same_by (path_of names (slice_get q.modules n)) text q (is_relative text) (is_builtin text) refl h
