-- The JSON value that bytes are.
use Rattle.std.proofs.Common.{◌≡◌, ℕ, true, false, List, Some, None, refl, ⊎_elim, IsUtf8}
use Rattle.std.specs.Str.{is_utf8}
use Rattle.std.proofs.lemmas.Str.{IsUtf8-from_is_utf8, is_utf8-from_IsUtf8}
use Rattle.std.proofs.lemmas.Bool.{cases_Bool}
use Rattle.serde_json.specs.Data.{Data}
use Rattle.serde_json.specs.Read.{read}
use Rattle.pkg_graph.specs.Manifests.{document}

pub document_is : (bytes : List ℕ) (value : Data) → IsUtf8 bytes → read bytes ≡ Some value → document bytes ≡ Some value
document_is bytes value utf8 is = rw (is_utf8-from_IsUtf8 bytes utf8) is

pub document_is_none : (bytes : List ℕ) → (IsUtf8 bytes → read bytes ≡ None) → document bytes ≡ None
document_is_none bytes refused =
    ⊎_elim
    (λ (yes : is_utf8 bytes ≡ true). rw yes (refused (IsUtf8-from_is_utf8 bytes yes)))
    (λ (no : is_utf8 bytes ≡ false). rw no refl)
    (cases_Bool (is_utf8 bytes))
