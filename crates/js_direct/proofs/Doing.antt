-- Forms that are done at once.
use Rattle.std.proofs.Common.{◌≡◌, ℕ, suc, ◌+◌, true, false, is_some, List, ◌∷◌, Option, Some, None, refl, ap, ◌∙◌, arith}
use Rattle.lava_base.specs.declared.ids.MadeSymbol.{MadeSymbol}
use Rattle.lava_base.specs.declared.ids.Ref.{Ref}
use Rattle.js_text.specs.Naming.{naming_of}
use Rattle.js_text.specs.declared.value.Value.TheVariants as value
use Rattle.js_desc.specs.declared.reply.Reply.TheVariants as reply
use Rattle.js_term.specs.declared.term.Term.{out-Term}
use Rattle.js_code.specs.Decoded.{layer_of, term_at}
use Rattle.js_code.specs.declared.node.Node.{Node}
use Rattle.js_code.specs.declared.node.Node.TheVariants as node
use Rattle.js_store.specs.Frozen.{CommonObject}
use Rattle.js_store.specs.Objects.{Object}
use Rattle.js_state.specs.Scopes.{Scope, outwards, slot_of, with_slot}
use Rattle.js_operation.specs.Deeds.{MachineParty}
use Rattle.js_operation.specs.Operating.{MachineValue}
use Rattle.js_operation.specs.js_run.Acts.{Next, with_value}
use Rattle.js_operation.specs.js_run.Completions.{Replied}
use Rattle.js_operation.specs.js_run.Parties.{running}
use Rattle.js_operation.specs.js_run.Properties as properties
use Rattle.js_operation.specs.js_run.Runs.{Begins, Charged, Due, Gives, answered, charge, run_for, settle}
use Rattle.js_direct.specs.Appends.{AppendsAtOnce, IsAppendRow}
use Rattle.js_direct.specs.Direct.{GivesAtOnce, Sight, value_of}
use Rattle.js_direct.specs.Done.{DoesAtOnce, IsDoneRow}
use Rattle.js_direct.specs.declared.direct.Direct.{Direct}
use Rattle.js_direct.proofs.Charges.{part}
use Rattle.js_direct.proofs.Given.{begun}

module _ (s : Sight) (common : List CommonObject) where
  -- what gives a value alone
  pub value_does : (at : ℕ) (v : MachineValue) (k : ℕ) → GivesAtOnce s at v k → DoesAtOnce s common at v s.objects s.scopes k
  value_does at v k h =
      record {
        does = λ shared env p ks charges limit steps f o t u d a.
            h.gives shared env p ks charges limit steps o t u a
            ∙ (λ j. run_for (naming_of s.me) shared env charges limit (steps + k) (settle (naming_of s.me) shared env ks (Gives (Replied (reply.Value v)) (record p { objects = o j; scopes = t j }))));
      }

  -- what writes a property, or appends an element
  pub write_does : (at : ℕ) (v : MachineValue) (after : List (Object Ref MadeSymbol)) (k : ℕ) → AppendsAtOnce s common at v after k → DoesAtOnce s common at v after s.scopes k
  write_does at v after k h =
      record {
        does = λ shared env p ks charges limit steps f o t u d a.
            h.appends shared env p ks charges limit steps f o t u d a
            ∙ (λ j. run_for (naming_of s.me) shared env charges limit (steps + k) (settle (naming_of s.me) shared env ks (Gives (Replied (reply.Value v)) (record p { objects = after; scopes = t j }))));
      }

  pub write_row_does : (n : Node) (after : List (Object Ref MadeSymbol)) (d : Direct) → IsAppendRow s common n after d → IsDoneRow s common n (value_of d.value) after s.scopes d.steps
  write_row_does n after d h = λ at e. write_does at (value_of d.value) after d.steps (h at e)

  module _ (at h i : ℕ) (v : MachineValue) (k all : ℕ) where
    abbrev scopes_after : List (Scope Ref MadeSymbol)
    scopes_after = with_slot s.scopes (outwards s.scopes h s.scope) i v

    -- what is written where a slot is initialised
    written : (o : Option MachineValue) (p : MachineParty) → is_some o ≡ true → properties.write_slot (naming_of s.me) false (outwards p.scopes h (running p).scope) i v o p
        ≡ properties.write_slot (naming_of s.me) false (outwards p.scopes h (running p).scope) i v (Some v) p
    written None p e = cc
    written (Some x) p e = refl

    -- a slot is written, whose form gives a value at once
    pub set_does : (from : ℕ) → out-Term (term_at s.code at) ≡ layer_of s.code (term_at s.code) (node.SetLocal h i false from) → GivesAtOnce s from v k → is_some (slot_of s.scopes (outwards s.scopes h s.scope) i) ≡ true
        → all ≡ k + 1 → DoesAtOnce s common at v s.objects scopes_after all
    set_does from e first there sum =
        record {
          does = λ shared env p ks charges limit steps f o t u d a.
              (let names = naming_of s.me in
              let next : Next Ref MadeSymbol = with_value (properties.set_slot names h i false) in
              let one_left : charge p.meter steps limit 1 ≡ Charged = part p.meter steps steps limit 1 all (omega (arith, sum)) a in
              let all_left : charge p.meter (steps + 1) limit k ≡ Charged = part p.meter steps (steps + 1) limit k all (omega (arith, sum)) a in
              let count : all + charges ≡ suc (k + charges) = omega (arith, sum) in
              let paid : steps + 1 + k ≡ steps + all = omega (arith, sum) in
              let is : is_some (slot_of p.scopes (outwards p.scopes h (running p).scope) i) ≡ true = (λ j. is_some (slot_of (t j) (outwards (t j) h (u j)) i)) ∙ there in
              ap (λ m. run_for names shared env m limit steps (Due 0 (Begins (term_at s.code at)) p ks)) count
              ∙ begun s at shared env p ks (k + charges) limit steps (node.SetLocal h i false from) e one_left
              ∙ first.gives shared env p (next ∷ ks) charges limit (steps + 1) o t u all_left
              ∙ ap (λ act. run_for names shared env charges limit (steps + 1 + k) (settle names shared env ks (answered names env act))) (written (slot_of p.scopes (outwards p.scopes h (running p).scope) i) p is)
              ∙ (λ j. run_for names shared env charges limit (paid j) (settle names shared env ks (Gives (Replied (reply.Value v)) (record p { objects = o j; scopes = with_slot (t j) (outwards (t j) h (u j)) i v })))));
        }

    -- a slot gets its first value, which its form gives at once
    pub init_does : (from : ℕ) → out-Term (term_at s.code at) ≡ layer_of s.code (term_at s.code) (node.Init h i from) → GivesAtOnce s from v k → all ≡ k + 1 → DoesAtOnce s common at value.Undefined s.objects scopes_after all
    init_does from e first sum =
        record {
          does = λ shared env p ks charges limit steps f o t u d a.
              (let names = naming_of s.me in
              let next : Next Ref MadeSymbol = with_value (properties.init_slot names h i) in
              let one_left : charge p.meter steps limit 1 ≡ Charged = part p.meter steps steps limit 1 all (omega (arith, sum)) a in
              let all_left : charge p.meter (steps + 1) limit k ≡ Charged = part p.meter steps (steps + 1) limit k all (omega (arith, sum)) a in
              let count : all + charges ≡ suc (k + charges) = omega (arith, sum) in
              let paid : steps + 1 + k ≡ steps + all = omega (arith, sum) in
              ap (λ m. run_for names shared env m limit steps (Due 0 (Begins (term_at s.code at)) p ks)) count
              ∙ begun s at shared env p ks (k + charges) limit steps (node.Init h i from) e one_left
              ∙ first.gives shared env p (next ∷ ks) charges limit (steps + 1) o t u all_left
              ∙ (λ j. run_for names shared env charges limit (paid j) (settle names shared env ks (Gives (Replied (reply.Value value.Undefined)) (record p { objects = o j; scopes = with_slot (t j) (outwards (t j) h (u j)) i v })))));
        }
