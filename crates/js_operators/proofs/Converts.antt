-- Conversions of values that are no objects, as operations and as acts.
use Rattle.std.proofs.Common.{◌≡◌, ℕ, Bool, true, false, List, Option, Some, None, if◌then◌else◌, refl, ◌∙◌, ap}
use Rattle.std.specs.Prelude.{ℤ}
use Rattle.js_text.specs.declared.value.Key.{Key}
use Rattle.js_text.specs.declared.value.Value.TheVariants as value
use Rattle.lava_base.specs.declared.ids.MadeSymbol.{MadeSymbol}
use Rattle.lava_base.specs.declared.ids.Ref.{Ref}
use Rattle.js_operation.specs.js_run.Acts.{asks}
use Rattle.js_operation.specs.js_run.Conversions.{number_read, primitive_to_key}
use Rattle.js_operation.specs.js_run.Operators.{number_of, text_of, to_primitive}
use Rattle.js_operation.specs.js_run.Parties.{Shared}
use Rattle.js_operation.specs.js_conversions.Primitives as primitives
use Rattle.js_operation.specs.Computing as computing
use Rattle.js_operation.specs.Computing.{key_computed, key_of, number_converted, numbers_of, texts_of, then_computed}
use Rattle.js_operation.specs.Deeds.{MachineAct, MachineNaming, MachineParty, act_of}
use Rattle.js_operation.specs.Operating.{MachineValue, number_value, object_of, then_operation}
use Rattle.js_operation.specs.declared.operation.Computed.{Computed}
use Rattle.js_operation.specs.declared.operation.Computed.TheVariants as computed
use Rattle.js_operation.specs.declared.operation.Operation.{Operation}

abbrev pub choose : {A : Type 0} → Bool → A → A → A
choose b x y = if b then x else y

-- one thing after another
pub then_both : {A B : Type 0} (c : Computed A) (f : A → Computed B) (g : B → Operation) → then_operation (then_computed c f) g ≡ then_operation c (λ x. then_operation (f x) g)
then_both (computed.Is x) f g = refl
then_both (computed.Fault x) f g = refl
then_both (computed.End x) f g = refl

module _ (names : MachineNaming) (shared : Shared) where
  -- what is read, or the run ends
  text_read : (n : Option ℤ) (p : MachineParty) (g : ℤ → Operation)
      → act_of names shared (then_operation (number_converted (primitives.number_read {R = Ref} {S = MadeSymbol} n)) g) p ≡ number_read names shared (asks names) n p (λ n q. act_of names shared (g n) q)
  text_read None p g = refl
  text_read (Some n) p g = refl

  pub number_does : (v : MachineValue) (p : MachineParty) (g : ℤ → Operation) → act_of names shared (then_operation (computing.number_of shared.number_of v) g) p ≡ number_of names shared v p (λ n q. act_of names shared (g n) q)
  number_does value.Undefined p g = refl
  number_does value.Null p g = refl
  number_does (value.Bool true) p g = refl
  number_does (value.Bool false) p g = refl
  number_does (value.Int n) p g = refl
  number_does (value.Text t) p g = text_read (shared.number_of t) p g
  number_does (value.Symbol s) p g = refl
  number_does (value.Ref r) p g = refl

  -- and what follows does the same
  pub number_then : (v : MachineValue) (p : MachineParty) (g : ℤ → Operation) (go : ℤ → MachineParty → MachineAct) → ((n : ℤ) (q : MachineParty) → act_of names shared (g n) q ≡ go n q)
      → act_of names shared (then_operation (computing.number_of shared.number_of v) g) p ≡ number_of names shared v p go
  number_then v p g go h = number_does v p g ∙ (λ i. number_of names shared v p (λ n q. h n q i))

  pub numbers_then : (v w : MachineValue) (p : MachineParty) (g : ℤ × ℤ → Operation) (go : ℤ → ℤ → MachineParty → MachineAct) → ((a b : ℤ) (q : MachineParty) → act_of names shared (g (a, b)) q ≡ go a b q)
      → act_of names shared (then_operation (numbers_of shared.number_of v w) g) p ≡ number_of names shared v p (λ a q. number_of names shared w q (λ b m. go a b m))
  numbers_then v w p g go h =
      ap (λ o. act_of names shared o p) (then_both (computing.number_of shared.number_of v) (λ a. then_computed (computing.number_of shared.number_of w) (λ b. computed.Is (a, b))) g)
      ∙ number_then v p _ (λ a q. number_of names shared w q (λ b m. go a b m)) (λ a q.
      ap (λ o. act_of names shared o q) (then_both (computing.number_of shared.number_of w) (λ b. computed.Is (a, b)) g)
      ∙ number_then w q (λ b. g (a, b)) (go a) (h a))

  pub value_then : (v : MachineValue) (p : MachineParty) (g : MachineValue → Operation) (go : ℤ → MachineParty → MachineAct) → ((n : ℤ) (q : MachineParty) → act_of names shared (g (value.Int n)) q ≡ go n q)
      → act_of names shared (then_operation (number_value (computing.number_of shared.number_of v)) g) p ≡ number_of names shared v p go
  value_then v p g go h =
      ap (λ o. act_of names shared o p) (then_both (computing.number_of shared.number_of v) (λ n. computed.Is (value.Int n)) g)
      ∙ number_then v p (λ n. g (value.Int n)) go h

  pub text_does : (v : MachineValue) (p : MachineParty) (g : List ℕ → Operation) → act_of names shared (then_operation (computing.text_of v) g) p ≡ text_of names shared v p (λ t q. act_of names shared (g t) q)
  text_does value.Undefined p g = refl
  text_does value.Null p g = refl
  text_does (value.Bool true) p g = refl
  text_does (value.Bool false) p g = refl
  text_does (value.Int n) p g = refl
  text_does (value.Text t) p g = refl
  text_does (value.Symbol s) p g = refl
  text_does (value.Ref r) p g = refl

  pub text_then : (v : MachineValue) (p : MachineParty) (g : List ℕ → Operation) (go : List ℕ → MachineParty → MachineAct) → ((t : List ℕ) (q : MachineParty) → act_of names shared (g t) q ≡ go t q)
      → act_of names shared (then_operation (computing.text_of v) g) p ≡ text_of names shared v p go
  text_then v p g go h = text_does v p g ∙ (λ i. text_of names shared v p (λ t q. h t q i))

  pub texts_then : (v w : MachineValue) (p : MachineParty) (g : List ℕ × List ℕ → Operation) (go : List ℕ → List ℕ → MachineParty → MachineAct) → ((s t : List ℕ) (q : MachineParty) → act_of names shared (g (s, t)) q ≡ go s t q)
      → act_of names shared (then_operation (texts_of v w) g) p ≡ text_of names shared v p (λ s q. text_of names shared w q (λ t m. go s t m))
  texts_then v w p g go h =
      ap (λ o. act_of names shared o p) (then_both (computing.text_of v) (λ s. then_computed (computing.text_of w) (λ t. computed.Is (s, t))) g)
      ∙ text_then v p _ (λ s q. text_of names shared w q (λ t m. go s t m)) (λ s q.
      ap (λ o. act_of names shared o q) (then_both (computing.text_of w) (λ t. computed.Is (s, t)) g)
      ∙ text_then w q (λ t. g (s, t)) (go s) (h s))

  -- a key
  pub key_does : (v : MachineValue) (p : MachineParty) (g : Key MadeSymbol → Operation) → act_of names shared (then_operation (key_of v) g) p ≡ primitive_to_key names shared (asks names) v p (λ k q. act_of names shared (g k) q)
  key_does value.Undefined p g = refl
  key_does value.Null p g = refl
  key_does (value.Bool true) p g = refl
  key_does (value.Bool false) p g = refl
  key_does (value.Int n) p g = refl
  key_does (value.Text t) p g = refl
  key_does (value.Symbol s) p g = refl
  key_does (value.Ref r) p g = refl

  -- an object becomes primitive first
  pub primitive_first : (f : Option Ref → Operation) (as_text : Bool) (v : MachineValue) (p : MachineParty) (go : MachineValue → MachineParty → MachineAct)
      → ((r : Ref) → act_of names shared (f (Some r)) p ≡ to_primitive names shared as_text (value.Ref r) p go) → act_of names shared (f None) p ≡ go v p
      → act_of names shared (f (object_of v)) p ≡ to_primitive names shared as_text v p go
  primitive_first f as_text value.Undefined p go h e = e
  primitive_first f as_text value.Null p go h e = e
  primitive_first f as_text (value.Bool b) p go h e = e
  primitive_first f as_text (value.Int n) p go h e = e
  primitive_first f as_text (value.Text t) p go h e = e
  primitive_first f as_text (value.Symbol s) p go h e = e
  primitive_first f as_text (value.Ref r) p go h e = h r

  -- one of two
  pub choice_does : (b : Bool) (x y : Operation) (p : MachineParty) (d e : MachineAct) → act_of names shared x p ≡ d → act_of names shared y p ≡ e → act_of names shared (choose b x y) p ≡ choose b d e
  choice_does true x y p d e h k = h
  choice_does false x y p d e h k = k
