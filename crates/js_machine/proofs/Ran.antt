-- Bodies that run.
use Rattle.std.proofs.Common.{◌≡◌, ℕ, suc, ◌+◌, ◌-◌, ◌<◌, ◌≤◌, Bool, true, false, List, [], ◌∷◌, ◌++◌, length, drop, replicate, Option, Some, None, sym, ap, ◌∙◌, subst, Result, Ok, Err, IfOk, if◌then◌else◌, append_assoc, arith}
use Rattle.std.proofs.lemmas.Bool.{lt-ltb, le-ltb}
use Rattle.lava_base.specs.declared.ids.MadeSymbol.{MadeSymbol}
use Rattle.lava_base.specs.declared.ids.Ref.{Ref}
use Rattle.js_text.specs.Naming.{naming_of}
use Rattle.js_text.specs.declared.value.Value.{Value}
use Rattle.js_text.specs.declared.value.Value.TheVariants as value
use Rattle.js_code.specs.Decoded.{term_at}
use Rattle.js_code.specs.Tables.{part_of}
use Rattle.js_code.specs.declared.node.TemplateRow.{TemplateRow}
use Rattle.js_term.specs.declared.term.Template.{out-Template}
use Rattle.js_term.specs.declared.term.Term.{Term}
use Rattle.js_state.specs.Scopes.{with_slot}
use Rattle.js_operation.specs.js_run.Acts.{End, Evaluate}
use Rattle.js_operation.specs.js_run.Bodies.{prepared}
use Rattle.js_operation.specs.js_run.Completions as halt_kind
use Rattle.js_operation.specs.js_run.Functions.{argument_slots, given_slots, other_slots, rest_arguments, array_of}
use Rattle.js_operation.specs.js_run.Parties as parties
use Rattle.js_operation.specs.js_run.Parties.{Party, deeper, made}
use Rattle.js_operation.specs.js_run.declared.TheConstants.{MAX_DEPTH}
use Rattle.js_machine.specs.Bodies.{running_of}
use Rattle.js_machine.specs.Filling.{scope_with, with_arguments, with_open_scope}
use Rattle.js_machine.specs.Made.{next_own, row_of}
use Rattle.js_machine.specs.Opened.{runs, template_of, with_body, with_prepared, with_rest, with_slots}
use Rattle.js_machine.specs.Steps.{Deed, LeadsTo, Waits, over, under}
use Rattle.js_machine.specs.Views.{args_on, Around, View, party_of}
use Rattle.js_machine.specs.declared.body.Body.{Body}
use Rattle.js_machine.specs.declared.frame.Frame.{Frame}
use Rattle.js_machine.specs.declared.frame.Mode.{Mode}
use Rattle.js_machine.proofs.Filled.{bound, last_empty, written}

-- A BODY IS OPEN

module _ (t : Term) (b : parties.Body Ref MadeSymbol) (f : Frame) (old : View) where
  abbrev Runs : Bool → Deed
  Runs x a = if x then Evaluate t (record (deeper (party_of a old)) { bodies = b ∷ old.bodies }) (over f old a) else End halt_kind.Depth

pub too_deep : {E : Type 0} (r : Result Mode E) (t : Term) (b : parties.Body Ref MadeSymbol) (f : Frame) (old new : View) → MAX_DEPTH ≤ old.depth → IfOk r (LeadsTo (λ a. End halt_kind.Depth) old new)
    → IfOk r (LeadsTo (λ a. runs t b (party_of a old) (over f old a)) (under f old) new)
too_deep (Ok m) t b f old new l h =
    let ended : LeadsTo (Runs t b f old false) (under f old) new m = record { leads = λ a. h.leads a; keeps = h.keeps } in
    subst (λ x. LeadsTo (Runs t b f old x) (under f old) new m) (sym (le-ltb _ _ l)) ended
too_deep (Err e) t b f old new l h = tt

pub opens : {E : Type 0} (r : Result Mode E) (at scope : ℕ) (b : Body) (f : Frame) (old mid new : View) → old.depth < MAX_DEPTH → mid ≡ with_body scope b old → IfOk r (Waits f at mid new)
    → IfOk r (LeadsTo (λ a. runs (term_at old.code at) (running_of scope (Some b)) (party_of a old) (over f old a)) (under f old) new)
opens (Ok m) at scope b f old mid new l e h =
    let t = term_at old.code at in
    let o = running_of scope (Some b) in
    let w = subst (λ x. Waits f at x new m) e h in
    let began : LeadsTo (Runs t o f old true) (under f old) new m = record { leads = λ a. w.leads a; keeps = w.keeps } in
    subst (λ x. LeadsTo (Runs t o f old x) (under f old) new m) (sym (lt-ltb _ _ l)) began
opens (Err x) at scope b f old mid new l e h = tt

-- THE SCOPE OF A BODY

abbrev others_of : View → TemplateRow → List (Option (Value Ref MadeSymbol))
others_of w row = other_slots (part_of row.undefined_start row.undefined_count w.code.numbers) row.params (row.slots - row.params)

-- `bound` over the scope that was opened
filled : (first n outer scope : ℕ) (ys : List (Option (Value Ref MadeSymbol))) (old mid new : View) → scope ≡ length old.scopes → mid ≡ with_open_scope outer (replicate first None ++ ys) old → new ≡ with_arguments first n scope mid
    → new ≡ record old { values = drop n old.values; scopes = old.scopes ++ scope_with outer (given_slots first (args_on n old.values) ++ ys) ∷ [] }
filled first n outer scope ys old mid new s e d =
    d ∙ (λ j. with_arguments first n (s j) (e j)) ∙ ap (λ ss. record old { values = drop n old.values; scopes = ss }) (bound first (args_on n old.values) old.scopes outer ys)

pub listed_prepared : (at outer n scope : ℕ) (row : TemplateRow) (old mid new : View) → row ≡ row_of old at → scope ≡ length old.scopes → mid ≡ with_open_scope outer (replicate row.params None ++ others_of old row) old
    → new ≡ with_arguments row.params n scope mid → new ≡ with_slots at outer n None old
listed_prepared at outer n scope row old mid new r s e d =
    filled row.params n outer scope (others_of old row) old mid new s e d ∙ (λ j. record old { values = drop n old.values; scopes = old.scopes ++ scope_with outer (given_slots (r j).params (args_on n old.values) ++ others_of old (r j)) ∷ [] })

pub rest_prepared : (at outer n scope fixed : ℕ) (array : Ref) (row : TemplateRow) (old made mid wrote new : View) → row ≡ row_of old at → fixed ≡ row.params - 1 → array ≡ next_own old → made ≡ with_rest at n old → scope ≡ length made.scopes
    → mid ≡ with_open_scope outer (replicate (fixed + 1) None ++ others_of made row) made → wrote ≡ record mid { scopes = with_slot mid.scopes scope fixed (value.Ref array) } → new ≡ with_arguments fixed n scope wrote
    → new ≡ with_prepared true at outer n old
rest_prepared at outer n scope fixed array row old made mid wrote new r f x m s e w d =
    let t = row_of old at in
    let v = value.Ref (next_own old) in
    let ss = old.scopes in
    let ys = others_of old t in
    let last : fixed + 1 ≡ suc fixed = omega arith in
    let number = s ∙ ap (λ (u : View). length u.scopes) m in
    let there = e ∙ (λ j. with_open_scope outer (replicate (last j) None ++ others_of (m j) (r j)) (m j)) in
    let put = w ∙ (λ j. record (there j) { scopes = with_slot (there j).scopes (number j) fixed (value.Ref (x j)) }) in
    let set_last = written ss outer fixed (replicate (suc fixed) None ++ ys) v ∙ ap (λ xs. ss ++ scope_with outer xs ∷ []) (last_empty fixed (Some v) ys) in
    filled fixed n outer scope (Some v ∷ ys) (with_rest at n old) wrote new number (put ∙ ap (λ us. record (with_rest at n old) { scopes = us }) set_last) d
    ∙ ap (λ xs. record (with_rest at n old) { values = drop n old.values; scopes = ss ++ scope_with outer xs ∷ [] })
    (sym (append_assoc (given_slots fixed (args_on n old.values)) (Some v ∷ []) ys) ∙ ap (λ k. (given_slots k (args_on n old.values) ++ Some v ∷ []) ++ ys) (f ∙ ap (λ (u : TemplateRow). u.params - 1) r))

-- A TEMPLATE'S BODY RUNS

module _ (b : Body) (f : Frame) (at outer n : ℕ) (old : View) where
  abbrev args : List (Value Ref MadeSymbol)
  args = args_on n old.values

  -- the party where the scope of the body is there, by whether there is a rest parameter
  abbrev Ready : Bool → Around → Party Ref MadeSymbol
  Ready x a =
      if x then parties.opened (made (party_of a old) (array_of (naming_of old.me) (rest_arguments (template_of old at) args))) outer (argument_slots (Some (value.Ref (next_own old))) (template_of old at) args)
      else parties.opened (party_of a old) outer (argument_slots None (template_of old at) args)

  abbrev Does : Bool → Deed
  Does x a = runs (term_at old.code (row_of old at).body) (running_of (length old.scopes) (Some b)) (Ready x a) (over f (record old { values = drop n old.values }) a)

  ready : {E : Type 0} (r : Result Mode E) (x : Bool) (at' : ℕ) (scope : ℕ) (mid new : View) → at' ≡ (row_of old at).body → scope ≡ length old.scopes → mid ≡ with_prepared x at outer n old
      → IfOk r (LeadsTo (λ a. runs (term_at mid.code at') (running_of scope (Some b)) (party_of a mid) (over f mid a)) (under f mid) new)
      → IfOk r (LeadsTo (Does x) (under f (record old { values = drop n old.values })) new)
  ready (Ok m) true at' scope mid new k s e h =
      let w = subst (λ (v : View). LeadsTo (λ a. runs (term_at v.code at') (running_of scope (Some b)) (party_of a v) (over f v a)) (under f v) new m) e h in
      let v = subst (λ i. LeadsTo (λ a. runs (term_at old.code i) (running_of scope (Some b)) (Ready true a) (over f (record old { values = drop n old.values }) a)) (under f (with_prepared true at outer n old)) new m) k w in
      let u = subst (λ i. LeadsTo (λ a. runs (term_at old.code (row_of old at).body) (running_of i (Some b)) (Ready true a) (over f (record old { values = drop n old.values }) a)) (under f (with_prepared true at outer n old)) new m) s v in
      record { leads = λ a. u.leads a; keeps = u.keeps }
  ready (Ok m) false at' scope mid new k s e h =
      let w = subst (λ (v : View). LeadsTo (λ a. runs (term_at v.code at') (running_of scope (Some b)) (party_of a v) (over f v a)) (under f v) new m) e h in
      let v = subst (λ i. LeadsTo (λ a. runs (term_at old.code i) (running_of scope (Some b)) (Ready false a) (over f (record old { values = drop n old.values }) a)) (under f (with_prepared false at outer n old)) new m) k w in
      let u = subst (λ i. LeadsTo (λ a. runs (term_at old.code (row_of old at).body) (running_of i (Some b)) (Ready false a) (over f (record old { values = drop n old.values }) a)) (under f (with_prepared false at outer n old)) new m) s v in
      record { leads = λ a. u.leads a; keeps = u.keeps }
  ready (Err z) true at' scope mid new k s e h = tt
  ready (Err z) false at' scope mid new k s e h = tt

  pub body_runs : {E : Type 0} (r : Result Mode E) (row : TemplateRow) (scope : ℕ) (mid new : View) → row ≡ row_of old at → scope ≡ length old.scopes → mid ≡ with_prepared (row_of old at).rest at outer n old
      → IfOk r (LeadsTo (λ a. runs (term_at mid.code row.body) (running_of scope (Some b)) (party_of a mid) (over f mid a)) (under f mid) new)
      → IfOk r (LeadsTo (λ a. runs (out-Template (template_of old at)).body (running_of (length old.scopes) (Some b)) (prepared (naming_of old.me) a.shared (template_of old at) outer args (party_of a old)) (over f (record old { values = drop n old.values }) a)) (under f (record old { values = drop n old.values })) new)
  body_runs r row scope mid new q s e h = ready r (row_of old at).rest row.body scope mid new (ap (λ (x : TemplateRow). x.body) q) s e h
