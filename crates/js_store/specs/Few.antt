-- Properties of which the first few are scanned: how far a scan goes, and one written at its place.
use Rattle.std.specs.Prelude.{ℕ, zero, suc, Bool, List, [], ◌∷◌, if◌then◌else◌}
use Rattle.js_text.specs.Fingerprints.{text_fingerprint}
use Rattle.js_text.specs.declared.value.Key.{Key}
use Rattle.js_text.specs.declared.value.Key.TheVariants as key
use Rattle.js_store.specs.Objects.{is_symbol, is_text}

-- how many entries stand before that of a key, or how many there are
abbrev pub entries_before : {K X : Type 0} → (K → Bool) → List (K × X) → ℕ
entries_before test [] = 0
entries_before test (e ∷ es) = if test e.0 then 0 else suc (entries_before test es)

-- the entries with another value at a place
abbrev pub with_value_at : {K X : Type 0} → List (K × X) → ℕ → X → List (K × X)
with_value_at [] i x = []
with_value_at (e ∷ es) zero x = (e.0, x) ∷ es
with_value_at (e ∷ es) (suc i) x = e ∷ with_value_at es i x

-- a key is a symbol, or it is none
abbrev pub chosen : {S : Type 0} → (symbols : Bool) → Key S → Bool
chosen symbols k = if symbols then is_symbol k else is_text k

-- the mark of a key, by which most other keys are told apart: the fingerprint of a text
abbrev pub mark_of : {S : Type 0} → Key S → ℕ
mark_of (key.Index n) = 0
mark_of (key.Text t) = text_fingerprint t
mark_of (key.Symbol s) = 0
