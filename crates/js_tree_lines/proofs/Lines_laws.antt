-- Lines are written one after the other.
use Rattle.std.proofs.Common.{◌≡◌, ℕ, suc, List, [], ◌∷◌, ◌++◌, map, refl, ap, sym, ◌∙◌, subst}
use Rattle.std.proofs.lemmas.List.{append_assoc, append-nil}
use Rattle.js_tree_lines.specs.Lines.{AreLines, LineNode, line, lines, no_lines, operands_of}
use Rattle.js_tree_lines.specs.Pending_lines.{AreRest, at_depth, further, nothing}

-- nodes have one text
pub one_text_of : (d : ℕ) (ns : List LineNode) (a b : List ℕ) → AreLines d ns a → AreLines d ns b → a ≡ b
one_text_of d [] a b (no_lines _) (no_lines _) = refl
one_text_of d (n ∷ ns) a b (lines _ _ _ below after x y) (lines _ _ _ other later z w) =
    ap (λ t. line d n ++ (t ++ after)) (one_text_of (suc d) (operands_of n) below other x z) ∙ ap (λ t. line d n ++ (other ++ t)) (one_text_of d ns after later y w)

-- what begins with some nodes of one depth
pub record BeginsWith (d : ℕ) (ns : List LineNode) (ps : List (ℕ × LineNode)) (bytes : List ℕ) : Type 0 where
  pub below : List ℕ
  pub after : List ℕ
  pub whole : bytes ≡ below ++ after
  pub these : AreLines d ns below
  pub others : AreRest ps after

with_first : (d : ℕ) (n : LineNode) (ns : List LineNode) (ps : List (ℕ × LineNode)) (bytes after : List ℕ) → AreLines d (n ∷ []) bytes → BeginsWith d ns ps after
    → BeginsWith d (n ∷ ns) ps (bytes ++ after)
with_first d n ns ps bytes after (lines _ _ _ under _ x (no_lines _)) b = record {
  below = line d n ++ (under ++ b.below);
  after = b.after;
  whole = ap (λ t. (line d n ++ t) ++ after) (append-nil under) ∙ ap (λ t. (line d n ++ under) ++ t) b.whole
      ∙ sym (append_assoc (line d n ++ under) b.below b.after) ∙ ap (λ t. t ++ b.after) (append_assoc (line d n) under b.below);
  these = lines d n ns under b.below x b.these;
  others = b.others;
}

pub begins : (d : ℕ) (ns : List LineNode) (ps : List (ℕ × LineNode)) (bytes : List ℕ) → AreRest (map (at_depth d) ns ++ ps) bytes → BeginsWith d ns ps bytes
begins d [] ps bytes r = record { below = []; after = bytes; whole = refl; these = no_lines d; others = r }
begins d (n ∷ ns) ps bytes (further _ _ rest first after x r) = with_first d n ns ps first after x (begins d ns ps after r)

close : (d : ℕ) (n : LineNode) (ps : List (ℕ × LineNode)) (bytes : List ℕ) → BeginsWith (suc d) (operands_of n) ps bytes → AreRest ((d, n) ∷ ps) (line d n ++ bytes)
close d n ps bytes b =
    subst (λ t. AreRest ((d, n) ∷ ps) t)
    (append_assoc (line d n) (b.below ++ []) b.after ∙ ap (λ t. line d n ++ (t ++ b.after)) (append-nil b.below) ∙ ap (λ t. line d n ++ t) (sym b.whole))
    (further d n ps (line d n ++ (b.below ++ [])) b.after (lines d n [] b.below [] b.these (no_lines d)) b.others)

-- a node's line, then what is written once its operands stand before the others
pub step : (d : ℕ) (n : LineNode) (ps : List (ℕ × LineNode)) (bytes : List ℕ) → AreRest (map (at_depth (suc d)) (operands_of n) ++ ps) bytes
    → AreRest ((d, n) ∷ ps) (line d n ++ bytes)
step d n ps bytes r = close d n ps bytes (begins (suc d) (operands_of n) ps bytes r)

-- one node alone
pub alone : (d : ℕ) (n : LineNode) (bytes : List ℕ) → AreRest ((d, n) ∷ []) bytes → AreLines d (n ∷ []) bytes
alone d n bytes (further _ _ _ first _ x nothing) = subst (λ t. AreLines d (n ∷ []) t) (sym (append-nil first)) x

-- what is written so far and any text of what is left are a text of the whole
abbrev pub GoesOn : List ℕ → List (ℕ × LineNode) → List ℕ → List (ℕ × LineNode) → Type 0
GoesOn out ps start all = (bytes : List ℕ) → AreRest ps bytes → (more : List ℕ) × (out ++ bytes ≡ start ++ more) × AreRest all more

pub goes_from_start : (start : List ℕ) (all : List (ℕ × LineNode)) → GoesOn start all start all
goes_from_start start all bytes r = (bytes, refl, r)

pub goes_on_step : (d : ℕ) (n : LineNode) (ps : List (ℕ × LineNode)) (out start : List ℕ) (all : List (ℕ × LineNode))
    → GoesOn out ((d, n) ∷ ps) start all → GoesOn (out ++ line d n) (map (at_depth (suc d)) (operands_of n) ++ ps) start all
goes_on_step d n ps out start all g bytes r =
    let x : (more : List ℕ) × (out ++ (line d n ++ bytes) ≡ start ++ more) × AreRest all more = g (line d n ++ bytes) (step d n ps bytes r) in
    (x.0, append_assoc out (line d n) bytes ∙ x.1, x.2)

pub goes_to_end : (out start : List ℕ) (all : List (ℕ × LineNode)) → GoesOn out [] start all → (more : List ℕ) × (out ≡ start ++ more) × AreRest all more
goes_to_end out start all g =
    let x : (more : List ℕ) × (out ++ [] ≡ start ++ more) × AreRest all more = g [] nothing in
    (x.0, sym (append-nil out) ∙ x.1, x.2)
