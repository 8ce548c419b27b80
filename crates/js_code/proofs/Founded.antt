-- Founded tables: the terms of places don't depend on fuel, and stay as tables grow.
use Rattle.std.proofs.Common.{◌≡◌, ℕ, zero, suc, ◌<◌, ◌≤◌, length, refl, sym, ap, ◌∙◌, ⊎_elim, arith}
use Rattle.std.proofs.lemmas.Bool.{cases_lt}
use Rattle.std.proofs.lemmas.List.{get_or_past}
use Rattle.js_code.specs.Tables.{Tables, node_at}
use Rattle.js_code.specs.Decoded.{Opens, layer_of, template_at, term_at, term_to}
use Rattle.js_code.specs.Settled.{Agree, Extends, Grows, HasTerm, Holds, IsFounded, IsSettled, Reading}
use Rattle.js_code.specs.declared.node.Node.TheVariants as node
use Rattle.js_code.proofs.Fronts.{front_fewer, grows_further, grows_itself}
use Rattle.js_term.specs.Layers.{TermLayer}
use Rattle.js_term.specs.declared.term.Term.{Term, out-Term, roll-Term, out-roll-Term}

-- SETTLED READINGS

-- what is settled stays so as tables grow and by more places
pub settled_grown : {A : Type 0} (read : Reading A) (c d : Tables) (k m : ℕ) → Grows c d → k ≤ m → IsSettled read c k → IsSettled read d m
settled_grown read c d k m grows l settled e more f g agree =
    settled e (grows_further grows more) f g (λ p b. agree p (omega (arith, b, l)))
    ∙ sym (settled d grows g g (λ p b. refl))

-- FUEL

abbrev layer : (c : Tables) → ℕ → (ℕ → Term) → TermLayer
layer c k low = layer_of c low (node_at c k)

-- a place past the last node names nothing
settled_at : (c : Tables) → IsFounded c → (k : ℕ) (f g : ℕ → Term) → Agree k f g → layer c k f ≡ layer c k g
settled_at c founded k f g agree =
    ⊎_elim
    (λ l. founded.nodes k l c (grows_itself c) f g agree)
    (λ (l : length c.nodes ≤ k). let e = get_or_past c.nodes k node.Outside l in ap (λ n. layer_of c f n) e ∙ sym (ap (λ n. layer_of c g n) e))
    (cases_lt k (length c.nodes))

same_fuel : (c : Tables) → IsFounded c → (m n k : ℕ) → k < m → k < n → term_to c m k ≡ term_to c n k
same_fuel c founded zero n k a b = absurd (omega (arith, a))
same_fuel c founded (suc m) zero k a b = absurd (omega (arith, b))
same_fuel c founded (suc m) (suc n) k a b =
    ap roll-Term (settled_at c founded k (term_to c m) (term_to c n) (λ p l. same_fuel c founded m n p (omega (arith, a, l)) (omega (arith, b, l))))

fueled : (c : Tables) → IsFounded c → (m k : ℕ) → k < m → term_at c k ≡ term_to c m k
unfolding term_at
fueled c founded m k l = same_fuel c founded (suc k) m k (omega arith) l

-- a term is its row's level
pub rolled : (c : Tables) → IsFounded c → (k : ℕ) → term_at c k ≡ roll-Term (layer_of c (term_at c) (node_at c k))
unfolding term_at
rolled c founded k = ap roll-Term (settled_at c founded k (term_to c k) (term_at c) (λ p l. sym (fueled c founded k p l)))

pub opens : (c : Tables) → IsFounded c → Opens c
opens c founded k = ap out-Term (rolled c founded k) ∙ out-roll-Term (layer_of c (term_at c) (node_at c k))

-- TABLES THAT GROW

grown_to : (c d : Tables) → IsFounded c → Grows c d → (m k : ℕ) → k < m → k < length c.nodes → term_to d m k ≡ term_to c m k
grown_to c d founded grows zero k a b = absurd (omega (arith, a))
grown_to c d founded grows (suc m) k a b =
    ap roll-Term (founded.nodes k b d grows (term_to d m) (term_to c m) (λ p l. grown_to c d founded grows m p (omega (arith, a, l)) (omega (arith, b, l))))

-- the terms of all places are as they were
pub grown_terms : (c d : Tables) → IsFounded c → Grows c d → Agree (length c.nodes) (term_at d) (term_at c)
unfolding term_at
grown_terms c d founded grows k l = grown_to c d founded grows (suc k) k (omega arith) l

pub extended : (c d : Tables) → IsFounded c → Grows c d → Extends c d
extended c d founded grows = record {
  grows = grows;
  terms = grown_terms c d founded grows;
  templates = λ k l. founded.templates k l d grows (term_at d) (term_at c) (grown_terms c d founded grows);
}

pub extends_itself : (c : Tables) → Extends c c
extends_itself c = record { grows = grows_itself c; terms = λ p l. refl; templates = λ p l. refl }

pub extends_further : {c d e : Tables} → Extends c d → Extends d e → Extends c e
extends_further a b = record {
  grows = grows_further a.grows b.grows;
  terms = λ p l. b.terms p (omega (arith, l, front_fewer a.grows.nodes)) ∙ a.terms p l;
  templates = λ p l. b.templates p (omega (arith, l, front_fewer a.grows.templates)) ∙ a.templates p l;
}

pub holds_still : {A : Type 0} {read : Reading A} {c d : Tables} {x : A} → Extends c d → Holds read c x → Holds read d x
holds_still {A} {read} {c} {d} e h = record {
  settled = settled_grown read c d (length c.nodes) (length d.nodes) e.grows (front_fewer e.grows.nodes) h.settled;
  is = h.settled d e.grows (term_at d) (term_at c) e.terms ∙ h.is;
}

pub has_still : {c d : Tables} {k : ℕ} {t : Term} → Extends c d → HasTerm c k t → HasTerm d k t
has_still {c} {d} {k} e h = record { within = omega (arith, h.within, front_fewer e.grows.nodes); is = e.terms k h.within ∙ h.is }

pub settled_still : {A : Type 0} (read : Reading A) {c d : Tables} → Extends c d → IsSettled read c (length c.nodes) → IsSettled read d (length d.nodes)
settled_still read {c} {d} e h = settled_grown read c d (length c.nodes) (length d.nodes) e.grows (front_fewer e.grows.nodes) h

pub within_still : {c d : Tables} (k : ℕ) → Extends c d → k < length c.nodes → k < length d.nodes
within_still k e l = omega (arith, l, front_fewer e.grows.nodes)

pub texts_still : {c d : Tables} (k : ℕ) → Extends c d → k < length c.texts → k < length d.texts
texts_still k e l = omega (arith, l, front_fewer e.grows.texts)

-- A ROW MORE

-- what each place settles stays where no node comes
pub founded_more : (c d : Tables) → IsFounded c → Grows c d → d.nodes ≡ c.nodes → d.templates ≡ c.templates → IsFounded d
founded_more c d founded grows same sames = record {
  nodes = λ k l. let b : k < length c.nodes = omega (arith, l, ap length same) in settled_grown (λ d low. layer_of d low (node_at d k)) c d k k grows (omega arith) (founded.nodes k b);
  templates = λ k l. let b : k < length c.templates = omega (arith, l, ap length sames) in
      settled_grown (λ d low. template_at d low k) c d (length c.nodes) (length d.nodes) grows (front_fewer grows.nodes) (founded.templates k b);
}
