-- The constructors of classes that have none.
use Rattle.std.proofs.Common.{◌≡◌, ℕ, zero, suc, ◌<◌, ◌≤◌, Bool, true, false, List, [], ◌∷◌, ◌++◌, length, get_or, Option, None, refl, sym, ap, ◌∙◌, subst, Result, Ok, Err, IfOk, append_assoc, length-append, arith}
use Rattle.std.proofs.lemmas.List.{append-nil}
use Rattle.std.specs.Option.{option_map}
use Rattle.js_text.specs.Naming.{naming_of}
use Rattle.js_code.specs.Decoded.{no_template_row, template_at, template_of, term_at, text_at}
use Rattle.js_code.specs.Settled.{Extends, Grows, IsFront}
use Rattle.js_code.specs.Tables.{Tables, part_of}
use Rattle.js_code.specs.declared.node.ClassRow.{ClassRow}
use Rattle.js_code.specs.declared.node.TemplateRow.{TemplateRow}
use Rattle.js_operation.specs.js_run.Parts.{class_template}
use Rattle.js_term.specs.declared.term.Template.{Template, out-Template, out-roll-Template}
use Rattle.js_machine.specs.Constructors.{IsTemplateOf}
use Rattle.js_machine.specs.Defaults.{AreDefaults, IsDefault, IsDefaultOf, is_derived}
use Rattle.js_machine.specs.Views.{View}

-- TABLES THAT GROW

module _ {A : Type 0} where
  front_itself : (xs : List A) → IsFront xs xs
  front_itself xs = record { rest = []; is = sym (append-nil xs) }

  front_of_front : {xs ys zs : List A} → IsFront xs ys → IsFront ys zs → IsFront xs zs
  front_of_front {xs} {ys} {zs} a b = record { rest = a.rest ++ b.rest; is = b.is ∙ (ap (λ l. l ++ b.rest) a.is ∙ append_assoc xs a.rest b.rest) }

  front_fewer : {xs ys : List A} → IsFront xs ys → length xs ≤ length ys
  front_fewer {xs} a = let e = ap length a.is in omega (arith, e, length-append xs a.rest)

pub extends_itself : (c : Tables) → Extends c c
extends_itself c = record {
  grows = record {
    nodes = front_itself c.nodes;
    texts = front_itself c.texts;
    numbers = front_itself c.numbers;
    arguments = front_itself c.arguments;
    parts = front_itself c.parts;
    templates = front_itself c.templates;
    classes = front_itself c.classes;
    turns = front_itself c.turns;
    guarded = front_itself c.guarded;
  };
  terms = λ p l. refl;
  templates = λ k l. refl;
}

grows_twice : {c d e : Tables} → Grows c d → Grows d e → Grows c e
grows_twice a b = record {
  nodes = front_of_front a.nodes b.nodes;
  texts = front_of_front a.texts b.texts;
  numbers = front_of_front a.numbers b.numbers;
  arguments = front_of_front a.arguments b.arguments;
  parts = front_of_front a.parts b.parts;
  templates = front_of_front a.templates b.templates;
  classes = front_of_front a.classes b.classes;
  turns = front_of_front a.turns b.turns;
  guarded = front_of_front a.guarded b.guarded;
}

pub extended_twice : (c d e : Tables) → Extends c d → Extends d e → Extends c e
extended_twice c d e a b = record {
  grows = grows_twice a.grows b.grows;
  terms = λ p l. (let m = front_fewer a.grows.nodes in b.terms p (omega (arith, l, m)) ∙ a.terms p l);
  templates = λ k l. (let m = front_fewer a.grows.templates in b.templates k (omega (arith, l, m)) ∙ a.templates k l);
}

-- ONE CONSTRUCTOR

-- it is one by its own name and kind
itself : (name : List ℕ) (derived : Bool) (t : Template) → IsDefaultOf name derived t → IsDefaultOf (out-Template t).name (is_derived (out-Template t).kind) t
itself name true t h =
    λ me shared. (let e = h me shared in
    let o = ap out-Template e ∙ out-roll-Template _ in
    e ∙ sym (λ j. class_template (naming_of me) shared (o j).name (is_derived (o j).kind) None))
itself name false t h =
    λ me shared. (let e = h me shared in
    let o = ap out-Template e ∙ out-roll-Template _ in
    e ∙ sym (λ j. class_template (naming_of me) shared (o j).name (is_derived (o j).kind) None))

pub added_default : {E : Type 0} (r : Result ℕ E) (name : List ℕ) (derived : Bool) (t : Template) (c : Tables) → IsDefaultOf name derived t → IfOk r (λ at. template_at c (term_at c) at ≡ t) → IfOk r (λ at. at < length c.templates) → IfOk r (λ at. IsDefault c at)
added_default (Ok at) name derived t c h e l = (l, subst (λ x. IsDefaultOf (out-Template x).name (is_derived (out-Template x).kind) x) (sym e) (itself name derived t h))
added_default (Err x) name derived t c h e l = tt

-- ALL CONSTRUCTORS

one_kept : (c d : Tables) (at : ℕ) → Extends c d → IsDefault c at → IsDefault d at
one_kept c d at x h =
    let m = front_fewer x.grows.templates in
    let l = h.0 in
    (omega (arith, l, m), subst (λ t. IsDefaultOf (out-Template t).name (is_derived (out-Template t).kind) t) (sym (x.templates at h.0)) h.1)

abbrev Each : Tables → List ℕ → Type 0
Each c ts = (k : ℕ) → k < length ts → IsDefault c (get_or ts k 0)

one_last : (c : Tables) (ts : List ℕ) (at : ℕ) → Each c ts → IsDefault c at → Each c (ts ++ at ∷ [])
one_last c [] at h d zero l = d
one_last c [] at h d (suc k) l = absurd (omega (arith, l))
one_last c (t ∷ ts) at h d zero l = h zero (omega arith)
one_last c (t ∷ ts) at h d (suc k) l = one_last c ts at (λ j m. h (suc j) (omega (arith, m))) d k (omega (arith, l))

pub kept_defaults : (c d : Tables) (ts : List ℕ) → AreDefaults c ts → Extends c d → AreDefaults d ts
kept_defaults c d ts h x = record { each = λ k l. one_kept c d (get_or ts k 0) x (h.each k l) }

pub one_default_more : (c d : Tables) (ts us : List ℕ) (at : ℕ) → AreDefaults c ts → Extends c d → IsDefault d at → us ≡ ts ++ at ∷ [] → AreDefaults d us
one_default_more c d ts us at h x p e = subst (λ vs. AreDefaults d vs) (sym e) (record { each = one_last d ts at (λ k l. one_kept c d (get_or ts k 0) x (h.each k l)) p })

pub none_ready : (c : Tables) (ts : List ℕ) → ts ≡ [] → AreDefaults c ts
none_ready c ts e = record { each = λ k l. absurd (let n = ap length e in omega (arith, l, n)) }

pub is_ready : (c : Tables) (at name : ℕ) (row : TemplateRow) (derived : Bool) → IsDefault c at → row ≡ get_or c.templates at no_template_row → is_derived row.kind ≡ derived → text_at c row.name ≡ text_at c name
    → IsDefaultOf (text_at c name) derived (template_at c (term_at c) at)
is_ready c at name row derived h e k n =
    let low = term_at c in
    let o = out-roll-Template (record {
      kind = row.kind;
      name = text_at c row.name;
      length = row.length;
      params = row.params;
      rest = row.rest;
      slots = row.slots;
      undefined = part_of row.undefined_start row.undefined_count c.numbers;
      body = low row.body;
    }) in
    let own = subst (λ x. IsDefaultOf (out-Template (template_of c low x)).name (is_derived (out-Template (template_of c low x)).kind) (template_of c low x)) (sym e) h.1 in
    let read = subst (λ x. IsDefaultOf x.name (is_derived x.kind) (template_of c low row)) o own in
    let named = subst (λ x. IsDefaultOf x (is_derived row.kind) (template_of c low row)) n read in
    let known = subst (λ x. IsDefaultOf (text_at c name) x (template_of c low row)) k named in
    subst (λ x. IsDefaultOf (text_at c name) derived (template_of c low x)) e known

-- A CLASS WITHOUT A CONSTRUCTOR

default_here : {E : Type 0} (r : Result ℕ E) (row : ClassRow) (derived : Bool) (w : View) → row.constructor ≡ None → IfOk r (λ at. IsDefaultOf (text_at w.code row.name) derived (template_at w.code (term_at w.code) at)) → IfOk r (λ at. IsTemplateOf row derived at w)
default_here (Ok at) row derived w e h = λ a. (h w.me a.shared ∙ sym (ap (λ (o : Option ℕ). class_template (naming_of w.me) a.shared (text_at w.code row.name) derived (option_map (template_at w.code (term_at w.code)) o)) e))
default_here (Err x) row derived w e h = tt

pub default_is : {E : Type 0} (r : Result ℕ E) (d : Tables) (row : ClassRow) (derived : Bool) (w : View) → d ≡ w.code → row.constructor ≡ None → IfOk r (λ at. IsDefaultOf (text_at d row.name) derived (template_at d (term_at d) at)) → IfOk r (λ at. IsTemplateOf row derived at w)
default_is r d row derived w s e h = default_here r row derived w e (subst (λ (c : Tables). IfOk r (λ at. IsDefaultOf (text_at c row.name) derived (template_at c (term_at c) at))) s h)
