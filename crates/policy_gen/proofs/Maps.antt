-- A map by strings is one by their bytes.
use Rattle.std.proofs.Common.{◌≡◌, ℕ, List, [], ◌∷◌, Option, Some, None, is_some, option_copied, Bor, String, Global, string_bytes, string_cmp, refl, ◌∙◌}
use Rattle.std.specs.BTreeMap.{insert_entry, is_at}
use Rattle.std.specs.Cmp.Lexicographic.{slice_cmp}
use Rattle.std.specs.Map.{lookup}
use Rattle.std.specs.Ordering.{match_ordering, nat_cmp}
use Rattle.std.specs.declared.cmp.Ordering.{Ordering}
use Rattle.std.specs.declared.cmp.Ordering.TheVariants.{Less, Equal, Greater}
use Rattle.policy_row.specs.Rows.{at_name, with_entry}
use Rattle.policy_row.specs.Texts.{by_bytes}

bytes_by_order : {X : Type 0} (o : Ordering) (a b c : List (String Global × X)) → by_bytes (match_ordering o a b c) ≡ match_ordering o (by_bytes a) (by_bytes b) (by_bytes c)
bytes_by_order Less a b c = refl
bytes_by_order Equal a b c = refl
bytes_by_order Greater a b c = refl

-- an entry goes in at its bytes
pub bytes_inserted : {X : Type 0} (es : List (String Global × X)) (k : String Global) (x : X) → by_bytes (insert_entry string_cmp es k x) ≡ with_entry (by_bytes es) (string_bytes k) x
bytes_inserted [] k x = refl
bytes_inserted (e ∷ es) k x = bytes_by_order (string_cmp k e.0) _ _ _ ∙ rw (bytes_inserted es k x) refl

-- and is found by them
pub bytes_found : {X : Type 0} (name : List ℕ) (es : List (String Global × X)) → lookup (is_at (λ k. slice_cmp nat_cmp name (string_bytes k))) es ≡ at_name name (by_bytes es)
bytes_found name [] = refl
bytes_found name (e ∷ es) = rw (bytes_found name es) refl

pub some_copied : {X : Type 0} (o : Option (Bor X)) → is_some o ≡ is_some (option_copied o)
some_copied None = refl
some_copied (Some x) = refl
