-- Modules that are evaluated, and imports.
use Rattle.std.proofs.Common.{◌≡◌, ℕ, suc, ◌+◌, ◌-◌, ◌<◌, ◌≤◌, Bool, true, false, List, [], ◌∷◌, ◌++◌, drop, length, map, slice_set, nat_lt, Option, Some, None, refl, sym, ap, ◌∙◌, subst, arith, Result, Ok, Err, IfOk, OnOk, if◌then◌else◌, replicate}
use Rattle.std.proofs.lemmas.Bool.{lt-ltb, le-ltb}
use Rattle.std.proofs.lemmas.List.{map-set}
use Rattle.lava_base.specs.declared.ids.MadeSymbol.{MadeSymbol}
use Rattle.lava_base.specs.declared.ids.Ref.{Ref}
use Rattle.js_text.specs.Naming.{Naming, naming_of}
use Rattle.js_text.specs.declared.value.Value.{Value}
use Rattle.js_text.specs.declared.value.Value.TheVariants as value
use Rattle.js_desc.specs.declared.ask.Ask.{Ask}
use Rattle.js_desc.specs.declared.ask.Ask.TheVariants as ask
use Rattle.js_desc.specs.declared.reply.Reply.{Reply}
use Rattle.js_desc.specs.declared.reply.Reply.TheVariants as reply
use Rattle.js_code.specs.Decoded.{term_at}
use Rattle.js_code.specs.Tables.{Tables, part_of}
use Rattle.js_code.specs.declared.node.TemplateRow.{TemplateRow}
use Rattle.js_term.specs.declared.term.TemplateKind.TheVariants as kind
use Rattle.js_state.specs.Scopes.{Scope, with_slot}
use Rattle.js_machine.specs.js_run.Acts.{Act, Closes, End, Evaluate, Give, Import, Then, give, on_value, with_value}
use Rattle.js_machine.specs.js_run.Completions as halt_kind
use Rattle.js_machine.specs.js_run.Completions.{Completion, Replied}
use Rattle.js_machine.specs.js_run.Functions.{other_slots, source_slots}
use Rattle.js_machine.specs.js_run.Modules.{evaluates_module, exports_key, get_exports, module_arguments, module_closes, module_ends, not_allowed}
use Rattle.js_machine.specs.js_run.Parties as parties
use Rattle.js_machine.specs.js_run.Parties.{Loaded, Party, deeper}
use Rattle.js_machine.specs.js_run.Requests.{is_link}
use Rattle.js_machine.specs.js_run.Runs.{Asks_out, Imports, answered}
use Rattle.js_machine.specs.js_run.declared.TheConstants.{MAX_DEPTH}
use Rattle.js_machine.specs.Bodies.{running_of}
use Rattle.js_machine.specs.Evaluated.{import_sent, imports_over, module_numbered, module_over, module_threw, numbers_from, unbegun, with_module, with_module_objects, with_module_scope}
use Rattle.js_machine.specs.Filling.{scope_with, with_open_scope}
use Rattle.js_machine.specs.Made.{row_of}
use Rattle.js_machine.specs.Opened.{runs, template_of}
use Rattle.js_machine.specs.Packages.{loaded_in, loaded_of}
use Rattle.js_machine.specs.Steps.{Deed, IsDelivered, LeadsTo, WaitsFor, Wakes, over, settles, under, with_top}
use Rattle.js_machine.specs.Views.{Around, View, below, completion_with, fitting, is_completion, is_throw, loaded_from, party_of, text_of, top, values_without}
use Rattle.js_machine.specs.declared.asked.Wait.{Wait}
use Rattle.js_machine.specs.declared.asked.Wait.TheVariants as wait
use Rattle.js_machine.specs.declared.body.Body.{Body}
use Rattle.js_machine.specs.declared.frame.Frame.{Frame}
use Rattle.js_machine.specs.declared.frame.Frame.TheVariants as frame
use Rattle.js_machine.specs.declared.frame.Mode.{Mode}
use Rattle.js_machine.specs.declared.frame.Mode.TheVariants as mode
use Rattle.js_machine.specs.declared.modules.ModuleObjects.{ModuleObjects}
use Rattle.js_machine.specs.declared.package.Module.{Module}
use Rattle.js_machine.proofs.Came_back.{followed, throw_is}
use Rattle.js_machine.proofs.Filled.{written}

-- A MODULE STANDS OTHERWISE

one_set : (c : Tables) (ms : List Module) (n : ℕ) (m : Module) → map (loaded_of c) (slice_set ms n m) ≡ slice_set (map (loaded_of c) ms) n (loaded_of c m)
one_set c ms n m = map-set (loaded_of c) ms n m

-- THE SCOPE OF A MODULE

module _ (at : ℕ) (o : ModuleObjects) (old : View) where
  abbrev given : ℕ → Value Ref MadeSymbol
  given i = value.Ref ((naming_of old.me).own i)

  abbrev bare : TemplateRow → TemplateRow
  bare row = record row { params = 3 }

  abbrev others : TemplateRow → List (Option (Value Ref MadeSymbol))
  others row = other_slots (part_of row.undefined_start row.undefined_count old.code.numbers) 3 (row.slots - 3)

  abbrev shape : List (Option (Value Ref MadeSymbol)) → TemplateRow → List (Scope Ref MadeSymbol)
  shape xs row = old.scopes ++ scope_with 0 (xs ++ others row) ∷ []

  filled : (row : TemplateRow) → with_slot (with_slot (with_slot (shape (None ∷ None ∷ None ∷ []) row) (length old.scopes) 0 (given o.exports)) (length old.scopes) 1 (given o.require)) (length old.scopes) 2 (given o.object)
      ≡ shape (Some (given o.exports) ∷ Some (given o.require) ∷ Some (given o.object) ∷ []) row
  filled row =
      ap (λ ss. with_slot (with_slot ss (length old.scopes) 1 (given o.require)) (length old.scopes) 2 (given o.object)) (written old.scopes 0 0 (None ∷ None ∷ None ∷ others row) (given o.exports))
      ∙ ap (λ ss. with_slot ss (length old.scopes) 2 (given o.object)) (written old.scopes 0 1 (Some (given o.exports) ∷ None ∷ None ∷ others row) (given o.require))
      ∙ written old.scopes 0 2 (Some (given o.exports) ∷ Some (given o.require) ∷ None ∷ others row) (given o.object)

  pub scope_filled : (row : TemplateRow) (s : ℕ) (x y z : Ref) (mid one two new : View) → row ≡ row_of old at → s ≡ length old.scopes → mid ≡ with_open_scope 0 (replicate 3 None ++ others row) old
      → x ≡ (naming_of old.me).own o.exports → one ≡ record mid { scopes = with_slot mid.scopes s 0 (value.Ref x) } → y ≡ (naming_of old.me).own o.require → two ≡ record one { scopes = with_slot one.scopes s 1 (value.Ref y) } → z ≡ (naming_of old.me).own o.object → new ≡ record two { scopes = with_slot two.scopes s 2 (value.Ref z) }
      → new ≡ with_module_scope at o old
  scope_filled row s x y z mid one two new r n e a f b g d h =
      let first = f ∙ (λ j. record (e j) { scopes = with_slot (e j).scopes (n j) 0 (value.Ref (a j)) }) in
      let second = g ∙ (λ j. record (first j) { scopes = with_slot (first j).scopes (n j) 1 (value.Ref (b j)) }) in
      let third = h ∙ (λ j. record (second j) { scopes = with_slot (second j).scopes (n j) 2 (value.Ref (d j)) }) in
      third ∙ ap (λ ss. record old { scopes = ss }) (filled row) ∙ ap (λ t. record old { scopes = shape (Some (given o.exports) ∷ Some (given o.require) ∷ Some (given o.object) ∷ []) t }) r

-- A MODULE IS EVALUATED

abbrev with_scope_of : (at exports : ℕ) → View → View
with_scope_of at e w = record w { scopes = w.scopes ++ scope_with 0 (source_slots (template_of w at) (module_arguments (naming_of w.me) e)) ∷ [] }

-- the numbers of the objects, as the definition has them
scope_numbered : (at e : ℕ) (w : View) → with_module_scope at (numbers_from e) w ≡ with_scope_of at e w
scope_numbered at e w =
    let one : suc e ≡ e + 1 = omega arith in
    let two : suc (suc e) ≡ e + 2 = omega arith in
    let names = naming_of w.me in
    λ t. record w { scopes = w.scopes ++ scope_with 0 (source_slots (template_of w at) (value.Ref (names.own e) ∷ value.Ref (names.own (two t)) ∷ value.Ref (names.own (one t)) ∷ [])) ∷ [] }

abbrev started : (number : ℕ) (m : Module) (old : View) → View
started n m old =
    let e = length old.objects in
    with_top (value.Text m.path) (with_module n (record { path = m.path; template = m.template; begun = Some (suc e) }) (with_scope_of m.template e (with_module_objects n old)))

abbrev body_with : (exports : Ref) → Body
body_with r = record { kind = kind.Module; back = 0; this = Some (value.Ref r); new_target = None; function = None; home = None }

abbrev body_for : View → Body
body_for old = body_with ((naming_of old.me).own (length old.objects))

abbrev frame_for : ℕ → Module → View → Frame
frame_for n m old = frame.ModuleBody n m.template (suc (length old.objects))

module _ (n : ℕ) (old : View) where
  abbrev m : Module
  m = module_numbered old n

  -- what is done, where the modules stand so
  abbrev Does : List Loaded → Deed
  Does ms a =
      let w = started n m old in
      if nat_lt old.depth MAX_DEPTH
      then Evaluate (term_at old.code (row_of old m.template).body) (record (deeper (party_of a w)) { modules = ms; bodies = running_of (length old.scopes) (Some (body_for old)) ∷ old.bodies }) (over (frame_for n m old) w a)
      else End halt_kind.Depth

  evaluated : {E : Type 0} (r : Result Mode E) (new : View)
      → IfOk r (LeadsTo (λ a. runs (term_at old.code (row_of old m.template).body) (running_of (length old.scopes) (Some (body_for old))) (party_of a (started n m old)) (over (frame_for n m old) (started n m old) a)) (under (frame_for n m old) (started n m old)) new)
      → IfOk r (LeadsTo (λ a. evaluates_module (naming_of old.me) n (unbegun old n) (party_of a old)) old new)
  evaluated (Ok k) new h =
      let w : LeadsTo (Does (loaded_in old.code (started n m old).own_package)) old new k = record { leads = λ a. h.leads a; keeps = h.keeps } in
      let v = subst (λ ms. LeadsTo (Does ms) old new k) (one_set old.code old.own_package.modules n (record { path = m.path; template = m.template; begun = Some (suc (length old.objects)) })) w in
      record { leads = λ a. v.leads a; keeps = v.keeps }
  evaluated (Err x) new h = tt

  pub module_evaluated : {E : Type 0} (r : Result Mode E) (path again : List ℕ) (at s : ℕ) (o : ModuleObjects) (row : TemplateRow) (b : Body) (x : Ref) (made opened set mid new : View)
      → path ≡ m.path → at ≡ m.template → again ≡ path → o ≡ numbers_from (length old.objects) → made ≡ with_module_objects n old → s ≡ length made.scopes → opened ≡ with_module_scope at o made
      → set ≡ with_module n (record { path = again; template = at; begun = Some o.object }) opened → mid ≡ with_top (value.Text path) set → row ≡ row_of mid at → b ≡ body_with x → x ≡ (naming_of mid.me).own o.exports
      → IfOk r (LeadsTo (λ a. runs (term_at mid.code row.body) (running_of s (Some b)) (party_of a mid) (over (frame.ModuleBody n at o.object) mid a)) (under (frame.ModuleBody n at o.object) mid) new)
      → IfOk r (LeadsTo (λ a. evaluates_module (naming_of old.me) n (unbegun old n) (party_of a old)) old new)
  module_evaluated r path again at s o row b x made opened set mid new e f g h d i j k l q y u z =
      let there : opened ≡ with_scope_of m.template (length old.objects) (with_module_objects n old) = j ∙ (λ t. with_module_scope (f t) (h t) (d t)) ∙ scope_numbered m.template (length old.objects) (with_module_objects n old) in
      let standing : set ≡ with_module n (record { path = m.path; template = m.template; begun = Some (suc (length old.objects)) }) (with_scope_of m.template (length old.objects) (with_module_objects n old)) =
      k ∙ (λ t. with_module n (record { path = (g ∙ e) t; template = f t; begun = Some (h t).object }) (there t)) in
      let now : mid ≡ started n m old = l ∙ (λ t. with_top (value.Text (e t)) (standing t)) in
      let number : s ≡ length old.scopes = i ∙ ap (λ (w : View). length w.scopes) d in
      let body : row.body ≡ (row_of old m.template).body = ap (λ (x : TemplateRow). x.body) (q ∙ (λ t. row_of (now t) (f t))) in
      let runs_with : b ≡ body_for old = y ∙ ap body_with (u ∙ (λ t. (naming_of (now t).me).own (h t).exports)) in
      evaluated r new (subst (λ (w : View). IfOk r (LeadsTo (λ a. runs (term_at w.code (row_of old m.template).body) (running_of (length old.scopes) (Some (body_for old))) (party_of a w) (over (frame_for n m old) w a)) (under (frame_for n m old) w) new)) now
      (subst (λ x. IfOk r (LeadsTo (λ a. runs (term_at mid.code x) (running_of (length old.scopes) (Some (body_for old))) (party_of a mid) (over (frame_for n m old) mid a)) (under (frame_for n m old) mid) new)) body
      (subst (λ x. IfOk r (LeadsTo (λ a. runs (term_at mid.code row.body) (running_of x (Some (body_for old))) (party_of a mid) (over (frame_for n m old) mid a)) (under (frame_for n m old) mid) new)) number
      (subst (λ x. IfOk r (LeadsTo (λ a. runs (term_at mid.code row.body) (running_of s (Some x)) (party_of a mid) (over (frame_for n m old) mid a)) (under (frame_for n m old) mid) new)) runs_with
      (subst (λ (x : ModuleObjects). IfOk r (LeadsTo (λ a. runs (term_at mid.code row.body) (running_of s (Some b)) (party_of a mid) (over (frame.ModuleBody n m.template x.object) mid a)) (under (frame.ModuleBody n m.template x.object) mid) new)) h
      (subst (λ x. IfOk r (LeadsTo (λ a. runs (term_at mid.code row.body) (running_of s (Some b)) (party_of a mid) (over (frame.ModuleBody n x o.object) mid a)) (under (frame.ModuleBody n x o.object) mid) new)) f z))))))

-- A BODY IS OVER

module _ (names : Naming Ref MadeSymbol) (c : Tables) (n : ℕ) (l : Loaded) (o : ℕ) (v : Value Ref MadeSymbol) (p : Party Ref MadeSymbol) where
  ends_is : (m : Mode) → is_completion m ≡ true → is_throw m ≡ false → module_ends names n l o (completion_with c m v) p ≡ get_exports names o p (Then (λ d q. module_closes names n l d q))
  ends_is (mode.Eval at) k t = cc
  ends_is mode.Ask k t = cc
  ends_is mode.Answer k t = cc
  ends_is mode.Value k t = refl
  ends_is mode.Throw k t = cc
  ends_is mode.Return k t = refl
  ends_is (mode.Break b) k t = refl
  ends_is (mode.Continue b) k t = refl
  ends_is (mode.End h) k t = cc
  ends_is (mode.Pay i) k t = cc
  ends_is (mode.Serve i) k t = cc
  ends_is mode.Import k t = cc
  ends_is mode.Outside k t = cc

abbrev Without : Mode → View → View
Without m w = record w { values = values_without m w.values }

pub body_over : {E : Type 0} (r : Result Mode E) (n at o : ℕ) (m : Mode) (old mid new : View) → is_completion m ≡ true → is_throw m ≡ false → mid ≡ Without m old
    → IfOk r (LeadsTo (λ a. get_exports (naming_of mid.me) o (party_of a mid) (over (frame.ModuleEnds n at) mid a)) (under (frame.ModuleEnds n at) mid) new) → IfOk r (IsDelivered (frame.ModuleBody n at o) m old new)
body_over (Ok k) n at o m old mid new c t e h =
    let w = subst (λ (x : View). LeadsTo (λ a. get_exports (naming_of x.me) o (party_of a x) (over (frame.ModuleEnds n at) x a)) (under (frame.ModuleEnds n at) x) new k) e h in
    followed (frame.ModuleBody n at o) m old new k c (record {
      leads = λ a. (let b = fitting old a in
          w.leads a ∙ ap (λ x. settles b (under (frame.ModuleBody n at o) (Without m old)) (drop 1 (values_without m old.values)) (answered (naming_of old.me) b.env x))
          (sym (ends_is (naming_of old.me) old.code n (loaded_from old.code (top (values_without m old.values)) at) o (top old.values) (party_of b old) m c t)));
      keeps = w.keeps;
    })
body_over (Err x) n at o m old mid new c t e h = tt

-- A MODULE THREW

module _ (n at : ℕ) (old : View) where
  abbrev left : Loaded
  left = loaded_from old.code (top (below old.values)) at

  -- what is given, where the modules stand so
  abbrev Threw : List Loaded → Around → Act Ref MadeSymbol
  Threw ms a = Give (Replied (reply.Throw (top old.values))) (parties.shallower (record (party_of a old) { modules = ms; bodies = (module_threw n at old).bodies }))

  threw_so : (a : Around) → Threw (map (loaded_of old.code) (slice_set old.own_package.modules n (record { path = text_of (top (below old.values)); template = at; begun = None }))) a ≡ Threw (slice_set (loaded_in old.code old.own_package) n left) a
  threw_so a = ap (λ ms. Threw ms a) (one_set old.code old.own_package.modules n (record { path = text_of (top (below old.values)); template = at; begun = None }))

  pub body_threw : (o : ℕ) (k : Mode) (new : View) → new ≡ module_threw n at old → k ≡ mode.Throw → IsDelivered (frame.ModuleBody n at o) mode.Throw old new k
  body_threw o k new e d =
      subst (λ x. IsDelivered (frame.ModuleBody n at o) mode.Throw old new x) (sym d) (subst (λ w. IsDelivered (frame.ModuleBody n at o) mode.Throw old w mode.Throw) (sym e) (record {
        stands = λ a. (let b = fitting old a in ap (λ x. settles b old (below (below old.values)) (answered (naming_of old.me) b.env x)) (threw_so b));
        keeps = (refl, (refl, (refl, (refl, refl))));
      }))

  pub ends_threw : (k : Mode) (new : View) → new ≡ module_threw n at old → k ≡ mode.Throw → IsDelivered (frame.ModuleEnds n at) mode.Throw old new k
  ends_threw k new e d =
      subst (λ x. IsDelivered (frame.ModuleEnds n at) mode.Throw old new x) (sym d) (subst (λ w. IsDelivered (frame.ModuleEnds n at) mode.Throw old w mode.Throw) (sym e) (record {
        stands = λ a. (let b = fitting old a in ap (λ x. settles b old (below (below old.values)) (answered (naming_of old.me) b.env x)) (threw_so b));
        keeps = (refl, (refl, (refl, (refl, refl))));
      }))

  pub ends_over : (k : Mode) (new : View) → new ≡ module_over old → k ≡ mode.Value → IsDelivered (frame.ModuleEnds n at) mode.Value old new k
  ends_over k new e d =
      subst (λ x. IsDelivered (frame.ModuleEnds n at) mode.Value old new x) (sym d) (subst (λ w. IsDelivered (frame.ModuleEnds n at) mode.Value old w mode.Value) (sym e) (record { stands = λ a. refl; keeps = (refl, (refl, (refl, (refl, refl)))) }))

pub body_threw_ok : {E : Type 0} (r : Result Mode E) (n at o : ℕ) (m : Mode) (old new : View) → is_throw m ≡ true → OnOk r (new ≡ module_threw n at old) → IfOk r (λ k. k ≡ mode.Throw) → IfOk r (IsDelivered (frame.ModuleBody n at o) m old new)
body_threw_ok (Ok k) n at o m old new t e d = subst (λ x. IsDelivered (frame.ModuleBody n at o) x old new k) (sym (throw_is m t)) (body_threw n at old o k new e d)
body_threw_ok (Err x) n at o m old new t e d = tt

pub ends_threw_ok : {E : Type 0} (r : Result Mode E) (n at : ℕ) (m : Mode) (old new : View) → m ≡ mode.Throw → OnOk r (new ≡ module_threw n at old) → IfOk r (λ k. k ≡ mode.Throw) → IfOk r (IsDelivered (frame.ModuleEnds n at) m old new)
ends_threw_ok (Ok k) n at m old new t e d = subst (λ x. IsDelivered (frame.ModuleEnds n at) x old new k) (sym t) (ends_threw n at old k new e d)
ends_threw_ok (Err x) n at m old new t e d = tt

pub ends_over_ok : {E : Type 0} (r : Result Mode E) (n at : ℕ) (m : Mode) (old new : View) → m ≡ mode.Value → OnOk r (new ≡ module_over old) → IfOk r (λ k. k ≡ mode.Value) → IfOk r (IsDelivered (frame.ModuleEnds n at) m old new)
ends_over_ok (Ok k) n at m old new t e d = subst (λ x. IsDelivered (frame.ModuleEnds n at) x old new k) (sym t) (ends_over n at old k new e d)
ends_over_ok (Err x) n at m old new t e d = tt

-- WHAT WAITED

given_is : (y : Reply Ref MadeSymbol) (p : Party Ref MadeSymbol) → on_value (Replied y) p give ≡ Give (Replied y) p
given_is (reply.Value v) p = refl
given_is (reply.Proto o) p = refl
given_is (reply.Flag b) p = refl
given_is (reply.Desc d) p = refl
given_is (reply.Keys ks) p = refl
given_is (reply.Throw e) p = refl

pub exports_woken : {E : Type 0} (r : Result Mode E) (w : Wait) (y : Reply Ref MadeSymbol) (old new : View) → w ≡ wait.Exports → IfOk r (LeadsTo (λ a. Give (Replied y) (party_of a old)) old new) → IfOk r (Wakes w y old new)
exports_woken (Ok m) w y old new s h =
    subst (λ x. Wakes x y old new m) (sym s) (record {
      leads = λ a. (let b = fitting old a in h.leads a ∙ ap (λ x. settles b old old.values (answered (naming_of old.me) b.env x)) (sym (given_is y (party_of b old))));
      keeps = h.keeps;
    })
exports_woken (Err x) w y old new s h = tt

-- IMPORTS

module _ (request link path : List ℕ) (old : View) where
  -- what an import over a link does, where there is room
  abbrev Sends : Deed
  Sends a = let p = party_of a old in Import link path (not_allowed (naming_of old.me) request p) (deeper p) (Closes (with_value give))

  abbrev Opens : Bool → Deed
  Opens b a = if b then Sends a else End halt_kind.Depth

  abbrev Leads : {E : Type 0} → Result Mode E → View → Type 0
  Leads r new = IfOk r (LeadsTo (λ a. imports_over (naming_of old.me) link path request (party_of a old)) old new)

  pub no_room : {E : Type 0} (r : Result Mode E) (new : View) → MAX_DEPTH ≤ old.depth → IfOk r (LeadsTo (λ a. End halt_kind.Depth) old new) → Leads r new
  no_room r new l h = subst (λ b. IfOk r (LeadsTo (Opens b) old new)) (sym (le-ltb _ _ l)) h

  by_room : {E : Type 0} (r : Result Mode E) (new : View) → old.depth < MAX_DEPTH → IfOk r (LeadsTo Sends old new) → Leads r new
  by_room r new l h = subst (λ b. IfOk r (LeadsTo (Opens b) old new)) (sym (lt-ltb _ _ l)) h

  refused : {E : Type 0} (r : Result Mode E) (new : View) → is_link link old.allowed ≡ false → IfOk r (LeadsTo (λ a. not_allowed (naming_of old.me) request (party_of a old)) old new) → IfOk r (LeadsTo Sends old new)
  refused (Ok m) new d h =
      record {
        leads = λ a. (let b = fitting old a in
            h.leads a
            ∙ ap (λ x. settles b old old.values (if x then Asks_out (Imports link path) (deeper (party_of b old)) (Closes (with_value give)) else answered (naming_of old.me) b.env (not_allowed (naming_of old.me) request (party_of b old)))) (sym d));
        keeps = h.keeps;
      }
  refused (Err x) new d h = tt

  pub denied : {E : Type 0} (r : Result Mode E) (y : Bool) (new : View) → old.depth < MAX_DEPTH → y ≡ is_link link old.allowed → y ≡ false
      → IfOk r (LeadsTo (λ a. not_allowed (naming_of old.me) request (party_of a old)) old new) → Leads r new
  denied r y new l g d h = by_room r new l (refused r new (sym g ∙ d) h)

  abbrev Away : View
  Away = record old { frames = frame.Decides ∷ old.frames; waits = wait.Exports ∷ old.waits; depth = suc old.depth; imported = record { link = link; path = path } }

  away : is_link link old.allowed ≡ true → LeadsTo Sends old Away mode.Import
  away d =
      record {
        leads = λ a. (let b = fitting old a in
            ap (λ x. settles b old old.values (if x then Asks_out (Imports link path) (deeper (party_of b old)) (Closes (with_value give)) else answered (naming_of old.me) b.env (not_allowed (naming_of old.me) request (party_of b old)))) (sym d));
        keeps = (refl, (refl, (refl, (refl, refl))));
      }

  gone : {E : Type 0} (r : Result Mode E) (new : View) → is_link link old.allowed ≡ true → OnOk r (new ≡ import_sent link path old) → IfOk r (λ m. m ≡ mode.Import) → IfOk r (LeadsTo Sends old new)
  gone (Ok m) new d s t =
      let one : old.depth + 1 ≡ suc old.depth = omega arith in
      subst (λ k. LeadsTo Sends old new k) (sym t) (subst (λ w. LeadsTo Sends old w mode.Import) (sym (s ∙ ap (λ n. record Away { depth = n }) one)) (away d))
  gone (Err x) new d s t = tt

  pub imported : {E : Type 0} (r : Result Mode E) (y : Bool) (new : View) → old.depth < MAX_DEPTH → y ≡ is_link link old.allowed → y ≡ true → OnOk r (new ≡ import_sent link path old) → IfOk r (λ m. m ≡ mode.Import) → Leads r new
  imported r y new l g d s t = by_room r new l (gone r new (sym g ∙ d) s t)

-- the `exports` of a module object is asked for
pub exports_asked : {E : Type 0} (r : Result Mode E) (f : Frame) (n : ℕ) (o : Ref) (x : Ask Ref MadeSymbol) (old new : View) → o ≡ (naming_of old.me).own n → x ≡ ask.Get exports_key (value.Ref ((naming_of old.me).own n)) → IfOk r (WaitsFor f o x old new)
    → IfOk r (LeadsTo (λ a. get_exports (naming_of old.me) n (party_of a old) (over f old a)) (under f old) new)
exports_asked r f n o x old new e d h = subst (λ y. IfOk r (WaitsFor f ((naming_of old.me).own n) y old new)) d (subst (λ y. IfOk r (WaitsFor f y x old new)) e h)
