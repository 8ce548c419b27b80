-- The arguments of calls.
use Rattle.std.proofs.Common.{◌≡◌, ℕ, suc, ◌+◌, ◌≤◌, List, [], ◌∷◌, ◌++◌, length, get_or, take, drop, map, refl, sym, ap, ◌∙◌, subst, Result, Ok, Err, IfOk, arith}
use Rattle.std.proofs.lemmas.List.{reverse-append}
use Rattle.lava_base.specs.declared.ids.MadeSymbol.{MadeSymbol}
use Rattle.lava_base.specs.declared.ids.Ref.{Ref}
use Rattle.js_text.specs.Naming.{naming_of}
use Rattle.js_text.specs.declared.value.Value.{Value}
use Rattle.js_code.specs.Decoded.{arguments_at, arguments_of, no_argument_row, term_at, terms_of}
use Rattle.js_code.specs.Tables.{part_of}
use Rattle.js_code.specs.declared.node.ArgumentRow.{ArgumentRow}
use Rattle.js_code.specs.declared.node.ArgumentRow.TheVariants as argument
use Rattle.js_term.specs.Layers.{ArgumentsLayer}
use Rattle.js_term.specs.declared.term.Arguments.{out-Arguments}
use Rattle.js_term.specs.declared.term.Arguments.TheOpen.{Arguments-F}
use Rattle.js_term.specs.declared.term.Arguments.TheVariants.{outs-Listed, outs-Of}
use Rattle.js_term.specs.declared.term.Term.{Term}
use Rattle.js_machine.specs.js_run.Calls.{calls_with}
use Rattle.js_machine.specs.js_run.Control.{all_values, argument_values, values_at}
use Rattle.js_machine.specs.js_run.Rows.{new_callee}
use Rattle.js_machine.specs.Steps.{LeadsTo, Waits}
use Rattle.js_machine.specs.Views.{View, applied, args_on, below, held, party_of, top}
use Rattle.js_machine.specs.declared.frame.Frame.TheVariants as frame
use Rattle.js_machine.specs.declared.frame.Mode.{Mode}
use Rattle.js_machine.specs.declared.frame.Purpose.{Purpose}
use Rattle.js_machine.specs.declared.frame.Purpose.TheVariants as purpose
use Rattle.js_machine.proofs.Listed.{part_first, part_within}

none_of : (ns : List ℕ) → length ns ≡ 0 → ns ≡ []
none_of [] e = refl
none_of (n ∷ ns) e = cc

module _ (k : Purpose) (done : ℕ) (old : View) where
  -- what is evaluated goes on with these arguments
  abbrev Argues : List Term → View → Mode → Type 0
  Argues ts new m = LeadsTo (λ a. all_values ts (args_on done old.values) (party_of a old) (applied (naming_of old.me) a.shared k (drop done old.values))) (record old { values = drop (done + held k) old.values }) new m

  pub all_there : {E : Type 0} (r : Result Mode E) (start left there : ℕ) (new : View) → there ≡ length (part_of start left old.code.numbers) → there ≡ 0
      → IfOk r (LeadsTo (λ a. applied (naming_of old.me) a.shared k (drop done old.values) (args_on done old.values) (party_of a old)) (record old { values = drop (done + held k) old.values }) new)
      → IfOk r (Argues (terms_of old.code (term_at old.code) start left) new)
  all_there r start left there new e z h = subst (λ ns. IfOk r (Argues (map (term_at old.code) ns) new)) (sym (none_of (part_of start left old.code.numbers) (sym e ∙ z))) h

  pub one_waits : {E : Type 0} (r : Result Mode E) (start left there start' left' first : ℕ) (new : View) → there ≡ length (part_of start left old.code.numbers) → (there ≡ 0 → ⊥) → there ≤ left → start' ≡ start + 1 → left ≡ suc left' → first ≡ get_or old.code.numbers start 0
      → IfOk r (Waits (frame.Arguments k done start' left') first old new) → IfOk r (Argues (terms_of old.code (term_at old.code) start left) new)
  one_waits (Ok m) start left there start' left' first new e z l s c f h =
      let within = part_within old.code.numbers start left (omega (arith, e, z)) in
      let split = part_first old.code.numbers start left start' left' c (omega (arith, s)) within in
      let w = subst (λ i. Waits (frame.Arguments k done start' left') i old new m) f h in
      let begun : Argues (map (term_at old.code) (get_or old.code.numbers start 0 ∷ part_of start' left' old.code.numbers)) new m = record { leads = λ a. w.leads a; keeps = w.keeps } in
      subst (λ ns. Argues (map (term_at old.code) ns) new m) (sym split) begun
  one_waits (Err x) start left there start' left' first new e z l s c f h = tt

  -- one argument more
  pub one_more : {E : Type 0} (r : Result Mode E) (start left : ℕ) (v : Value Ref MadeSymbol) (more : ℕ) (mid new : View) → more ≡ suc done → mid ≡ record old { values = v ∷ old.values }
      → IfOk r (LeadsTo (λ a. all_values (terms_of mid.code (term_at mid.code) start left) (args_on more mid.values) (party_of a mid) (applied (naming_of mid.me) a.shared k (drop more mid.values))) (record mid { values = drop (more + held k) mid.values }) new)
      → IfOk r (LeadsTo (λ a. all_values (terms_of old.code (term_at old.code) start left) (args_on done old.values ++ v ∷ []) (party_of a old) (applied (naming_of old.me) a.shared k (drop done old.values))) (record old { values = drop (done + held k) old.values }) new)
  one_more (Ok m) start left v more mid new e d h =
      let ts = terms_of old.code (term_at old.code) start left in
      let w = subst (λ (x : View). LeadsTo (λ a. all_values (terms_of x.code (term_at x.code) start left) (args_on more x.values) (party_of a x) (applied (naming_of x.me) a.shared k (drop more x.values))) (record x { values = drop (more + held k) x.values }) new m) d h in
      let u = subst (λ i. LeadsTo (λ a. all_values ts (args_on i (v ∷ old.values)) (party_of a old) (applied (naming_of old.me) a.shared k (drop i (v ∷ old.values)))) (record old { values = drop (i + held k) (v ∷ old.values) }) new m) e w in
      let n : suc done + held k ≡ suc (done + held k) = omega arith in
      let t = subst (λ i. LeadsTo (λ a. all_values ts (args_on (suc done) (v ∷ old.values)) (party_of a old) (applied (naming_of old.me) a.shared k (drop done old.values))) (record old { values = drop i (v ∷ old.values) }) new m) n u in
      subst (λ xs. LeadsTo (λ a. all_values ts xs (party_of a old) (applied (naming_of old.me) a.shared k (drop done old.values))) (record old { values = drop (done + held k) old.values }) new m) (reverse-append (v ∷ []) (take done old.values)) t
  one_more (Err x) start left v more mid new e d h = tt

-- ARGUMENTS BEGIN

module _ (k : Purpose) (at : ℕ) (old : View) where
  abbrev Begins : View → Mode → Type 0
  Begins new m = LeadsTo (λ a. argument_values (naming_of old.me) a.shared (arguments_at old.code (term_at old.code) at) (party_of a old) (applied (naming_of old.me) a.shared k old.values)) (record old { values = drop (held k) old.values }) new m

  by_row : {E : Type 0} (r : Result Mode E) (row : ArgumentRow) (l : ArgumentsLayer) (new : View) → row ≡ get_or old.code.arguments at no_argument_row → out-Arguments (arguments_of old.code (term_at old.code) row) ≡ l
      → IfOk r (LeadsTo (λ a. values_at (naming_of old.me) a.shared l (party_of a old) (applied (naming_of old.me) a.shared k old.values)) (record old { values = drop (held k) old.values }) new) → IfOk r (Begins new)
  by_row r row l new q e h =
      subst (λ x. IfOk r (LeadsTo (λ a. values_at (naming_of old.me) a.shared x (party_of a old) (applied (naming_of old.me) a.shared k old.values)) (record old { values = drop (held k) old.values }) new)) (sym e ∙ ap (λ x. out-Arguments (arguments_of old.code (term_at old.code) x)) q) h

  pub listed_begin : {E : Type 0} (r : Result Mode E) (start count : ℕ) (new : View) → argument.Listed start count ≡ get_or old.code.arguments at no_argument_row
      → IfOk r (Argues k 0 old (terms_of old.code (term_at old.code) start count) new) → IfOk r (Begins new)
  listed_begin r start count new q h =
      let n : 0 + held k ≡ held k = omega arith in
      let ts = terms_of old.code (term_at old.code) start count in
      by_row r (argument.Listed start count) (Arguments-F.Listed ts) new q (outs-Listed ts) (subst (λ i. IfOk r (LeadsTo (λ a. all_values ts [] (party_of a old) (applied (naming_of old.me) a.shared k old.values)) (record old { values = drop i old.values }) new)) n h)

  pub array_begins : {E : Type 0} (r : Result Mode E) (from : ℕ) (new : View) → argument.Of from ≡ get_or old.code.arguments at no_argument_row → IfOk r (Waits (frame.ArgumentsOf k) from old new) → IfOk r (Begins new)
  array_begins (Ok m) from new q h =
      by_row {E = ℕ} (Ok m) (argument.Of from) (Arguments-F.Of (term_at old.code from)) new q (outs-Of (term_at old.code from)) (record { leads = λ a. h.leads a; keeps = h.keeps })
  array_begins (Err x) from new q h = tt

-- CALLEES

pub callee_led : {E : Type 0} (r : Result Mode E) (this f : Value Ref MadeSymbol) (at : ℕ) (old mid top new : View) → mid ≡ record old { values = this ∷ old.values } → top ≡ record mid { values = f ∷ mid.values } → IfOk r (Begins purpose.Call at top new)
    → IfOk r (LeadsTo (λ a. calls_with (naming_of old.me) a.shared this (arguments_at old.code (term_at old.code) at) f (party_of a old)) old new)
callee_led (Ok m) this f at old mid top new d e h =
    let w = subst (λ x. Begins purpose.Call at x new m) (e ∙ (λ j. record (d j) { values = f ∷ (d j).values })) h in
    record { leads = λ a. w.leads a; keeps = w.keeps }
callee_led (Err x) this f at old mid top new d e h = tt

pub new_callee_led : {E : Type 0} (r : Result Mode E) (f : Value Ref MadeSymbol) (at : ℕ) (old mid new : View) → mid ≡ record old { values = f ∷ old.values } → IfOk r (Begins purpose.New at mid new)
    → IfOk r (LeadsTo (λ a. new_callee (naming_of old.me) a.shared (arguments_at old.code (term_at old.code) at) f (party_of a old)) old new)
new_callee_led (Ok m) f at old mid new d h = let w = subst (λ x. Begins purpose.New at x new m) d h in record { leads = λ a. w.leads a; keeps = w.keeps }
new_callee_led (Err x) f at old mid new d h = tt

pub method_led : {E : Type 0} (r : Result Mode E) (this f : Value Ref MadeSymbol) (at : ℕ) (old mid new : View) → this ≡ top old.values → mid ≡ record old { values = below old.values }
    → IfOk r (LeadsTo (λ a. calls_with (naming_of mid.me) a.shared this (arguments_at mid.code (term_at mid.code) at) f (party_of a mid)) mid new)
    → IfOk r (LeadsTo (λ a. calls_with (naming_of old.me) a.shared (top old.values) (arguments_at old.code (term_at old.code) at) f (party_of a old)) (record old { values = below old.values }) new)
method_led (Ok m) this f at old mid new s e h =
    let w = subst (λ (x : View). LeadsTo (λ a. calls_with (naming_of x.me) a.shared this (arguments_at x.code (term_at x.code) at) f (party_of a x)) x new m) e h in
    subst (λ v. LeadsTo (λ a. calls_with (naming_of old.me) a.shared v (arguments_at old.code (term_at old.code) at) f (party_of a old)) (record old { values = below old.values }) new m) s (record { leads = λ a. w.leads a; keeps = w.keeps })
method_led (Err x) this f at old mid new s e h = tt
