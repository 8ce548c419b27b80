-- The body of a function that took nothing.
use Rattle.std.proofs.Common.{◌≡◌, ℕ, true, ◌+◌, ◌-◌, ◌≤◌, List, [], ◌++◌, replicate, ltb, lt-ltb, Ok, Err, OnOk, arith, suc, ◌<◌, ◌∷◌, false, length, drop, Option, Some, None, refl, sym, ap, ◌∙◌, subst, Result, IfOk, if◌then◌else◌}
use Rattle.std.proofs.lemmas.Bool.{eq-eqb}
use Rattle.lava_base.specs.declared.ids.MadeSymbol.{MadeSymbol}
use Rattle.lava_base.specs.declared.ids.Ref.{Ref}
use Rattle.js_text.specs.Naming.{Own, Foreign, naming_of, origin_of}
use Rattle.js_text.specs.declared.value.Value.{Value}
use Rattle.js_text.specs.declared.value.Value.TheVariants as value
use Rattle.js_code.specs.Tables.{part_of}
use Rattle.js_state.specs.Scopes.{with_slot}
use Rattle.js_code.specs.declared.node.TemplateRow.{TemplateRow}
use Rattle.js_desc.specs.declared.decision.BodyId.{BodyId}
use Rattle.js_store.specs.declared.slot.Lexical.{Lexical}
use Rattle.js_machine.specs.Called.{called_body, needs_new, template_numbered}
use Rattle.js_machine.specs.Closures.{outer_of, runs_closure}
use Rattle.js_machine.specs.Filling.{bound_from, scope_with, with_arguments, with_open_scope}
use Rattle.js_machine.specs.Made.{row_of}
use Rattle.js_machine.specs.js_run.Functions.{argument_slots, other_slots}
use Rattle.js_machine.specs.Opened.{template_of, with_prepared, with_slots}
use Rattle.js_machine.specs.Steps.{LeadsTo, Waits}
use Rattle.js_machine.specs.Views.{View, args_on, below, party_of, top}
use Rattle.js_machine.specs.js_run.declared.TheConstants.{MAX_DEPTH}
use Rattle.js_machine.specs.declared.body.Body.{Body}
use Rattle.js_machine.specs.declared.closures.Closure.{Closure}
use Rattle.js_machine.specs.declared.frame.Frame.TheVariants as frame
use Rattle.js_machine.specs.declared.frame.Mode.{Mode}
use Rattle.js_machine.proofs.Closed.{listed_runs}
use Rattle.js_machine.proofs.Filled.{one_less, opened_bare, still}
use Rattle.js_machine.proofs.Ran.{body_runs, listed_prepared, opens}
use Rattle.js_machine_calls.proofs.Numbered.{calls_so}

-- a body begins with so many arguments, which are on the stack of values
abbrev pub Begun : {E : Type 0} → Result Mode E → Ref → BodyId → Closure → ℕ → (old new : View) → Type 0
Begun r f b c n old new = IfOk r (LeadsTo (λ a. runs_closure (naming_of old.me) a.shared f b c value.Undefined (args_on n old.values) None (party_of a old)) (record old { values = drop n old.values }) new)

abbrev V : Type 0
V = Value Ref MadeSymbol

-- ARGUMENTS

-- an argument is taken off and is in its slot, where each parameter has one
module _ (count left j scope : ℕ) (old w mid new : View) (v : V) (l : count ≤ length old.values) (s : left ≡ suc j) (t : left ≤ count)
    (state : w ≡ record old { values = drop (count - left) old.values; scopes = w.scopes })
    (taken : v ≡ top w.values)
    (rest : mid ≡ record w { values = below w.values })
    (wrote : new ≡ record mid { scopes = with_slot mid.scopes scope j v }) where
  within : true ≡ ltb j count
  within = sym (lt-ltb j count (omega (arith, s, t)))

  taken' : v ≡ (if ltb j count then top w.values else value.Undefined)
  taken' = taken ∙ ap (λ b. if b then top w.values else value.Undefined) within

  rest' : mid ≡ record w { values = if ltb j count then below w.values else w.values }
  rest' = rest ∙ ap (λ b. record w { values = if b then below w.values else w.values }) within

  pub one_taken : new ≡ record old { values = drop (count - j) old.values; scopes = new.scopes }
  one_taken = still count left j scope old w mid new v l s state taken' rest' wrote

  pub one_bound : bound_from j (args_on count old.values) scope new.scopes ≡ bound_from left (args_on count old.values) scope w.scopes
  one_bound = one_less count left j scope old w mid new v l s state taken' rest' wrote

-- none is left
pub all_taken : (count left scope : ℕ) (old w : View) → left ≡ 0 → w ≡ record old { values = drop (count - left) old.values; scopes = w.scopes } → bound_from left (args_on count old.values) scope w.scopes ≡ bound_from count (args_on count old.values) scope old.scopes
    → w ≡ with_arguments count count scope old
all_taken count left scope old w z e s =
    let args = args_on count old.values in
    let scopes : w.scopes ≡ bound_from count args scope old.scopes = ap (λ i. bound_from i args scope w.scopes) (sym z) ∙ s in
    let gone : count - left ≡ count = omega (arith, z) in
    e ∙ (λ i. record old { values = drop (gone i) old.values; scopes = scopes i })

-- no slot but those of the parameters starts with a value
no_others : (start : ℕ) (xs : List ℕ) (params slots count : ℕ) → params ≤ slots → count ≡ 0 → replicate {A = Option V} slots None ≡ replicate params None ++ other_slots (part_of start count xs) params (slots - params)
no_others start xs params slots count l z =
    let all : slots ≡ params + (slots - params) = omega (arith, l) in
    ap (λ k. replicate {A = Option V} k None) all ∙ opened_bare params params slots (slots - params) refl ∙ ap (λ k. replicate params None ++ other_slots (part_of start k xs) params (slots - params)) (sym z)

-- the scope of a body where each parameter has an argument
pub full : (at outer scope : ℕ) (row : TemplateRow) (old mid new : View) → row ≡ row_of old at → row.params ≤ row.slots → row.undefined_count ≡ 0 → scope ≡ length old.scopes → mid ≡ with_open_scope outer (replicate row.slots None) old
    → new ≡ with_arguments row.params row.params scope mid → new ≡ with_slots at outer row.params None old
full at outer scope row old mid new r l z s e d =
    listed_prepared at outer row.params scope row old mid new r s (e ∙ ap (λ xs. with_open_scope outer xs old) (no_others row.undefined_start old.code.numbers row.params row.slots row.undefined_count l z)) d

-- so many arguments are there
pub as_given : {A E : Type 0} (r : Result A E) (at outer n m k : ℕ) (old new : View) → m ≡ k → args_on m old.values ≡ args_on n old.values → drop m old.values ≡ drop n old.values → OnOk r (new ≡ with_slots at outer k None old) → OnOk r (new ≡ with_slots at outer n None old)
as_given (Ok x) at outer n m k old new e a d h =
    let args = ap (λ i. args_on i old.values) (sym e) ∙ a in
    let rest = ap (λ i. drop i old.values) (sym e) ∙ d in
    h ∙ (λ i. record old { values = rest i; scopes = old.scopes ++ scope_with outer (argument_slots None (template_of old at) (args i)) ∷ [] })
as_given (Err x) at outer n m k old new e a d h = tt

-- THE BODY OF A FUNCTION

-- an own object is from here
from_here : (me id : ℕ) → origin_of me ((naming_of me).own id) ≡ Own id
from_here me id = ap (λ b. if b then Own id else Foreign) (eq-eqb me me refl)

-- an own function stands where its body says
stands_there : (me id scope : ℕ) (f : Ref) → f ≡ (naming_of me).own id → scope ≡ outer_of ((naming_of me).origin f) scope
stands_there me id scope f e = ap (λ o. outer_of o scope) (sym (from_here me id)) ∙ ap (λ r. outer_of ((naming_of me).origin r) scope) (sym e)

-- a body that is open waits for its end
pub begun : {E : Type 0} (r : Result Mode E) (id at n scope : ℕ) (f : Ref) (b : BodyId) (home : Option Ref) (row : TemplateRow) (old mid pushed new : View) → f ≡ (naming_of old.me).own id → template_of old at ≡ template_numbered old b.template
    → row ≡ row_of old at → row.rest ≡ false → needs_new row.kind ≡ false → old.depth < MAX_DEPTH → scope ≡ length old.scopes → mid ≡ with_slots at b.scope n None old
    → pushed ≡ record mid { bodies = called_body scope row.kind f home None value.Undefined ∷ mid.bodies; depth = suc mid.depth } → IfOk r (Waits frame.Called row.body pushed new)
    → Begun r f b (record { home = home; lexical = None }) n old new
begun r id at n scope f b home row old mid pushed new e t d rest kind less s m p h =
    let body : Body = record { kind = row.kind; back = 0; this = Some value.Undefined; new_target = None; function = Some f; home = home } in
    let there : (row_of old at).rest ≡ false = ap (λ (x : TemplateRow). x.rest) (sym d) ∙ rest in
    let ready : mid ≡ with_prepared (row_of old at).rest at b.scope n old = m ∙ ap (λ x. with_prepared x at b.scope n old) (sym there) in
    let shallow : mid.depth < MAX_DEPTH = subst (λ (w : View). w.depth < MAX_DEPTH) (sym m) less in
    let opened = opens r row.body scope body frame.Called mid pushed new shallow p h in
    let run = body_runs body frame.Called at b.scope n old r row scope mid new d s ready opened in
    let called = calls_so at b.scope n f home None value.Undefined old r row.kind body new (ap (λ (x : TemplateRow). x.kind) d) kind refl run in
    listed_runs r f b (record { home = home; lexical = None }) value.Undefined None n at b.scope old new t (stands_there old.me id b.scope f e) called

-- what a function took is known
pub taken : {E : Type 0} (r : Result Mode E) (f : Ref) (b : BodyId) (c : Closure) (n : ℕ) (l : Option (Lexical Ref MadeSymbol)) (old new : View) → c.lexical ≡ l → Begun r f b (record { home = c.home; lexical = l }) n old new → Begun r f b c n old new
taken r f b c n l old new e h = subst (λ x. Begun r f b (record { home = c.home; lexical = x }) n old new) (sym e) h
