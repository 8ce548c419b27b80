-- What a scope of names has, and bodies of one expression.
use Rattle.std.proofs.Common.{◌≡◌, ℕ, suc, ◌+◌, Bool, true, false, ◌||◌, cond, List, [], ◌∷◌, ◌++◌, length, Option, Some, None, is_some, refl, ap, sym, subst, ◌∙◌, arith}
use Rattle.std.specs.Option.{option_map}
use Rattle.js_text.specs.SameKeys.{same_units_decides}
use Rattle.js_text.specs.Texts.{same_units}
use Rattle.js_names.specs.Scopes.{found_at, found_in, has_name, one_further, with_name, with_names}
use Rattle.js_names.specs.declared.declared.DeclaredName.{DeclaredName}
use Rattle.js_names.specs.declared.declared.FoundName.{FoundName}
use Rattle.js_frames.specs.declared.frame.SlotName.{SlotName}
use Rattle.js_lower_table.specs.Templates.{var_slots}
use Rattle.js_lower.specs.Helpers.{concise_term}
use Rattle.js_term.specs.declared.term.Term.{Term}
use Rattle.js_term.specs.declared.term.Term.TheVariants as term

cons_by : (s : Bool) (f : FoundName) (o : Option FoundName) → is_some (cond s (Some f) (option_map one_further o)) ≡ s || is_some o
cons_by true f o = refl
cons_by false f None = refl
cons_by false f (Some g) = refl

has_cons : (q : List ℕ) (d : DeclaredName) (ds : List DeclaredName) → has_name q (d ∷ ds) ≡ same_units d.name q || has_name q ds
has_cons q d ds = cons_by (same_units d.name q) (found_at 0 d) (found_in q ds)

or_assoc : (a b c : Bool) → (a || b) || c ≡ a || (b || c)
or_assoc true b c = refl
or_assoc false b c = refl

or_false : (a : Bool) → a || false ≡ a
or_false true = refl
or_false false = refl

has_last : (q : List ℕ) (d : DeclaredName) (ds : List DeclaredName) → has_name q (ds ++ d ∷ []) ≡ has_name q ds || same_units d.name q
has_last q d [] = has_cons q d [] ∙ or_false (same_units d.name q)
has_last q d (e ∷ ds) = has_cons q e (ds ++ d ∷ []) ∙ ap (λ b. same_units e.name q || b) (has_last q d ds)
    ∙ sym (or_assoc (same_units e.name q) (has_name q ds) (same_units d.name q)) ∙ ap (λ b. b || same_units d.name q) (sym (has_cons q e ds))

absorbed : (q : List ℕ) (d : DeclaredName) (ds : List DeclaredName) → has_name d.name ds ≡ true → (s : Bool) → same_units d.name q ≡ s → has_name q ds ≡ has_name q ds || s
absorbed q d ds h false e = sym (or_false (has_name q ds))
absorbed q d ds h true e = let there : has_name q ds ≡ true = subst (λ v. has_name v ds ≡ true) ((same_units_decides d.name q).0 e) h in rw there refl

has_with_by : (q : List ℕ) (d : DeclaredName) (ds : List DeclaredName) (b : Bool) → has_name d.name ds ≡ b
    → has_name q (cond b ds (ds ++ d ∷ [])) ≡ has_name q ds || same_units d.name q
has_with_by q d ds true h = absorbed q d ds h (same_units d.name q) refl
has_with_by q d ds false h = has_last q d ds

has_with : (q : List ℕ) (d : DeclaredName) (ds : List DeclaredName) → has_name q (with_name ds d) ≡ has_name q ds || same_units d.name q
has_with q d ds = has_with_by q d ds (has_name d.name ds) refl

has_with_all : (q : List ℕ) (es ds : List DeclaredName) → has_name q (with_names ds es) ≡ has_name q ds || has_name q es
has_with_all q [] ds = sym (or_false (has_name q ds))
has_with_all q (e ∷ es) ds = has_with_all q es (with_name ds e) ∙ ap (λ b. b || has_name q es) (has_with q e ds)
    ∙ or_assoc (has_name q ds) (same_units e.name q) (has_name q es) ∙ ap (λ b. has_name q ds || b) (sym (has_cons q e es))

pub concise_none : (l : List Term) (t : Term) → length l ≡ 0 → concise_term l t ≡ t
concise_none [] t h = refl
concise_none (p ∷ ps) t h = absurd (omega (arith, h))

pub concise_some : (l : List Term) (t : Term) → (length l ≡ 0 → ⊥) → concise_term l t ≡ term.Seq (l ++ t ∷ [])
concise_some [] t h = absurd (h refl)
concise_some (p ∷ ps) t h = refl

-- of each name once is enough
pub var_slots_once : (ds : List DeclaredName) (at : ℕ) (ss : List SlotName) → var_slots (with_names [] ds) at ss ≡ var_slots ds at ss
var_slots_once ds at [] = refl
var_slots_once ds at (s ∷ ss) = rw (has_with_all s.name ds []) (ap (λ l. cond (has_name s.name ds) (at ∷ l) l) (var_slots_once ds (at + 1) ss))
