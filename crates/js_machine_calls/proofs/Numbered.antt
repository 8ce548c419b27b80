-- Templates and kinds.
use Rattle.std.proofs.Common.{◌≡◌, ℕ, ◌-◌, ◌<◌, ◌≤◌, true, false, List, ◌++◌, length, drop, get_or, map, Option, Some, None, refl, sym, ap, ◌∙◌, subst, Result, Ok, Err, IfOk, arith}
use Rattle.std.proofs.lemmas.List.{get_or-map, get_or_append_left, get_or-append_right, get_or_past, length-append, length-map}
use Rattle.lava_base.specs.declared.ids.MadeSymbol.{MadeSymbol}
use Rattle.lava_base.specs.declared.ids.Ref.{Ref}
use Rattle.js_text.specs.Naming.{Naming, naming_of}
use Rattle.js_text.specs.declared.value.Value.{Value}
use Rattle.js_desc.specs.declared.fault.FaultText.TheVariants as fault
use Rattle.js_code.specs.Decoded.{template_at, term_at}
use Rattle.js_code.specs.declared.node.TemplateRow.{TemplateRow}
use Rattle.js_store.specs.declared.slot.Lexical.{Lexical}
use Rattle.js_term.specs.declared.term.Template.{Template, out-Template}
use Rattle.js_term.specs.declared.term.TemplateKind.{TemplateKind}
use Rattle.js_term.specs.declared.term.TemplateKind.TheVariants as kind
use Rattle.js_machine.specs.js_run.Bodies.{call_by_kind, construct_by_kind, prepared}
use Rattle.js_machine.specs.js_run.Faults.{faults}
use Rattle.js_machine.specs.js_run.Parties as parties
use Rattle.js_machine.specs.js_run.Parties.{Party, Shared, no_template}
use Rattle.js_machine.specs.js_run.Runs.{answered}
use Rattle.js_machine.specs.Bodies.{running_of}
use Rattle.js_machine.specs.Called.{called_body, needs_new, template_numbered}
use Rattle.js_machine.specs.Made.{row_of}
use Rattle.js_machine.specs.Opened.{runs, template_of}
use Rattle.js_machine.specs.Steps.{LeadsTo, settles}
use Rattle.js_machine.specs.Views.{args_on, View, fitting, next_of, party_of, rest_of}
use Rattle.js_machine.specs.declared.body.Body.{Body}
use Rattle.js_machine.specs.declared.frame.Frame.TheVariants as frame
use Rattle.js_machine.specs.declared.frame.Mode.{Mode}

-- TEMPLATES BY NUMBER

module _ (f : ℕ → Template) (xs ys : List ℕ) where
  read : (zs : List ℕ) (n at : ℕ) → n < length zs → at ≡ get_or zs n at → f at ≡ get_or (map f zs) n no_template
  read zs n at l e = ap f e ∙ sym (get_or-map f zs n at no_template l)

  left : (n at : ℕ) → n < length xs → at ≡ get_or xs n at → f at ≡ get_or (map f xs ++ map f ys) n no_template
  left n at l e = read xs n at l e ∙ sym (get_or_append_left (map f xs) (map f ys) no_template n (omega (arith, l, length-map xs f)))

  right : (n m at : ℕ) → length xs ≤ n → m ≡ n - length xs → m < length ys → at ≡ get_or ys m at → f at ≡ get_or (map f xs ++ map f ys) n no_template
  right n m at k s l e = read ys m at l e ∙ ap (λ i. get_or (map f ys) i no_template) s ∙ sym (get_or-append_right (map f xs) (map f ys) (length xs) n no_template (length-map xs f) k)

  past : (n at : ℕ) → length xs ≤ n → length ys ≤ n - length xs → f at ≡ no_template → f at ≡ get_or (map f xs ++ map f ys) n no_template
  past n at k l e = e ∙ sym (get_or_past (map f xs ++ map f ys) n no_template (omega (arith, length-append (map f xs) (map f ys), length-map xs f, length-map ys f)))

pub in_common : (w : View) (n at : ℕ) → n < length w.common_templates → at ≡ get_or w.common_templates n at → template_of w at ≡ template_numbered w n
in_common w n at l e = left (template_at w.code (term_at w.code)) w.common_templates w.templates n at l e

pub in_own : (w : View) (n m at : ℕ) → length w.common_templates ≤ n → m ≡ n - length w.common_templates → m < length w.templates → at ≡ get_or w.templates m at → template_of w at ≡ template_numbered w n
in_own w n m at k s l e = right (template_at w.code (term_at w.code)) w.common_templates w.templates n m at k s l e

pub nowhere : (w : View) (n at : ℕ) → length w.common_templates ≤ n → length w.templates ≤ n - length w.common_templates → template_of w at ≡ no_template → template_of w at ≡ template_numbered w n
nowhere w n at k l e = past (template_at w.code (term_at w.code)) w.common_templates w.templates n at k l e

-- CALLS BY KIND

module _ (me at outer n : ℕ) (f : Ref) (home : Option Ref) (l : Option (Lexical Ref MadeSymbol)) (this : Value Ref MadeSymbol) (old : View) (shared : Shared) (p : Party Ref MadeSymbol) where
  abbrev names : Naming Ref MadeSymbol
  names = naming_of me

  abbrev t : Template
  t = template_of old at

  abbrev args : List (Value Ref MadeSymbol)
  args = args_on n old.values

  refused : (k : TemplateKind) → needs_new k ≡ true → call_by_kind names shared k f t outer home l this args p ≡ faults names fault.ClassNeedsNew p
  refused kind.Plain e = cc
  refused kind.Arrow e = cc
  refused kind.Method e = cc
  refused kind.Base e = refl
  refused kind.Derived e = refl
  refused kind.Built e = cc
  refused kind.Module e = cc
  refused kind.Text e = cc

module _ (at outer n : ℕ) (f : Ref) (home : Option Ref) (this : Value Ref MadeSymbol) (old : View) (shared : Shared) (p : Party Ref MadeSymbol) where
  abbrev Calls : TemplateKind → Option (Lexical Ref MadeSymbol) → Type 0
  Calls k l =
      call_by_kind (naming_of old.me) shared k f (template_of old at) outer home l this (args_on n old.values) p
      ≡ runs (out-Template (template_of old at)).body (called_body (length p.scopes) (out-Template (template_of old at)).kind f home l this) (prepared (naming_of old.me) shared (template_of old at) outer (args_on n old.values) p)
      (next_of (naming_of old.me) shared old.code frame.Called (drop n old.values))

  runs_so : (k : TemplateKind) (l : Option (Lexical Ref MadeSymbol)) → needs_new k ≡ false → Calls k l
  runs_so kind.Plain None e = refl
  runs_so kind.Plain (Some l) e = refl
  runs_so kind.Arrow None e = refl
  runs_so kind.Arrow (Some l) e = refl
  runs_so kind.Method None e = refl
  runs_so kind.Method (Some l) e = refl
  runs_so kind.Base l e = cc
  runs_so kind.Derived l e = cc
  runs_so kind.Built None e = refl
  runs_so kind.Built (Some l) e = refl
  runs_so kind.Module None e = refl
  runs_so kind.Module (Some l) e = refl
  runs_so kind.Text None e = refl
  runs_so kind.Text (Some l) e = refl

module _ (at outer n : ℕ) (f : Ref) (home : Option Ref) (l : Option (Lexical Ref MadeSymbol)) (this : Value Ref MadeSymbol) (old : View) where
  abbrev Led : TemplateKind → View → Mode → Type 0
  Led k new m = LeadsTo (λ a. call_by_kind (naming_of old.me) a.shared k f (template_of old at) outer home l this (args_on n old.values) (party_of a old)) (record old { values = drop n old.values }) new m

  rescoped_by : (k : TemplateKind) (x : Option (Lexical Ref MadeSymbol)) → record (called_body 0 k f home x this) { scope = length old.scopes } ≡ called_body (length old.scopes) k f home x this
  rescoped_by k None = refl
  rescoped_by k (Some x) = refl

  -- the constructor of a class is refused
  pub refuses : {E : Type 0} (r : Result Mode E) (k k' : TemplateKind) (mid new : View) → k' ≡ k → needs_new k' ≡ true → mid ≡ record old { values = drop n old.values } → IfOk r (LeadsTo (λ a. faults (naming_of mid.me) fault.ClassNeedsNew (party_of a mid)) mid new) → IfOk r (Led k new)
  refuses (Ok m) k k' mid new s t e h =
      let w = subst (λ (x : View). LeadsTo (λ a. faults (naming_of x.me) fault.ClassNeedsNew (party_of a x)) x new m) e h in
      let led : Led k' new m = record { leads = λ a. (let b = fitting old a in w.leads a ∙ ap (λ x. settles b old (drop n old.values) (answered (naming_of old.me) b.env x)) (sym (refused old.me at outer n f home l this old b.shared (party_of b old) k' t))); keeps = w.keeps } in
      subst (λ i. Led i new m) s led
  refuses (Err x) k k' mid new s t e h = tt

  rescoped : (k : TemplateKind) → record (called_body 0 k f home l this) { scope = length old.scopes } ≡ called_body (length old.scopes) k f home l this
  rescoped k = rescoped_by k l

  pub calls_so : {E : Type 0} (r : Result Mode E) (k : TemplateKind) (body : Body) (new : View) → k ≡ (row_of old at).kind → needs_new k ≡ false → running_of 0 (Some body) ≡ called_body 0 k f home l this
      → IfOk r (LeadsTo (λ a. runs (out-Template (template_of old at)).body (running_of (length old.scopes) (Some body)) (prepared (naming_of old.me) a.shared (template_of old at) outer (args_on n old.values) (party_of a old)) (next_of (naming_of old.me) a.shared old.code frame.Called (drop n old.values))) (record old { values = rest_of frame.Called (drop n old.values) }) new)
      → IfOk r (Led (row_of old at).kind new)
  calls_so (Ok m) k body new s e b h =
      let q = row_of old at in
      let opened = ap (λ (x : parties.Body Ref MadeSymbol). record x { scope = length old.scopes }) b ∙ rescoped k ∙ ap (λ i. called_body (length old.scopes) i f home l this) s in
      let w = subst (λ o. LeadsTo (λ a. runs (term_at old.code q.body) o (prepared (naming_of old.me) a.shared (template_of old at) outer (args_on n old.values) (party_of a old)) (next_of (naming_of old.me) a.shared old.code frame.Called (drop n old.values))) (record old { values = drop n old.values }) new m) opened h in
      record { leads = λ a. (let c = fitting old a in w.leads a ∙ ap (λ x. settles c old (drop n old.values) (answered (naming_of old.me) c.env x)) (sym (runs_so at outer n f home this old c.shared (party_of c old) q.kind l (ap needs_new (sym s) ∙ e)))); keeps = w.keeps }
  calls_so (Err x) k body new s e b h = tt

-- CONSTRUCTIONS BY KIND

pub constructs_so : {E : Type 0} (r : Result Mode E) (at outer n : ℕ) (f : Ref) (home : Option Ref) (target : Ref) (row : TemplateRow) (k : TemplateKind) (old new : View) → row ≡ row_of old at → row.kind ≡ k
    → IfOk r (LeadsTo (λ a. construct_by_kind (naming_of old.me) a.shared k f (template_of old at) outer home target (args_on n old.values) (party_of a old)) (record old { values = drop n old.values }) new)
    → IfOk r (LeadsTo (λ a. construct_by_kind (naming_of old.me) a.shared (row_of old at).kind f (template_of old at) outer home target (args_on n old.values) (party_of a old)) (record old { values = drop n old.values }) new)
constructs_so r at outer n f home target row k old new q e h =
    subst (λ x. IfOk r (LeadsTo (λ a. construct_by_kind (naming_of old.me) a.shared x f (template_of old at) outer home target (args_on n old.values) (party_of a old)) (record old { values = drop n old.values }) new)) (sym e ∙ ap (λ (x : TemplateRow). x.kind) q) h
