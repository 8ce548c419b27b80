-- A reference that is not there goes last.
use Rattle.std.proofs.Common.{◌≡◌, Bool, true, false, cond, is_some, List, [], ◌∷◌, ◌++◌, Option, Some, refl, ◌∙◌, ap}
use Rattle.std.specs.Map.{lookup}
use Rattle.indexmap.specs.IndexMap.{insert_entry}
use Rattle.lava_base.specs.Ids.{same_ref}
use Rattle.lava_base.specs.declared.ids.Ref.{Ref}
use Rattle.lava_base.specs.declared.marks.Marks.{Marks}
use Rattle.js_store.specs.Foreign.{with_marks}

not_found : (b : Bool) (v : Marks) (rest : Option Marks) → is_some (cond b (Some v) rest) ≡ false → (b ≡ false) × (is_some rest ≡ false)
not_found true v rest h = absurd cc
not_found false v rest h = (refl, h)

goes_last : (r : Ref) (m : Marks) (known : List (Ref × Marks)) → is_some (lookup (same_ref r) known) ≡ false → insert_entry same_ref known r m ≡ known ++ (r, m) ∷ []
goes_last r m [] h = refl
goes_last r m (e ∷ es) h =
    let none = not_found (same_ref r e.0) e.1 (lookup (same_ref r) es) h in
    ap (λ b. cond b ((e.0, m) ∷ es) (e ∷ insert_entry same_ref es r m)) none.0 ∙ ap (λ l. e ∷ l) (goes_last r m es none.1)

-- and so it is added
pub added : (r : Ref) (m : Marks) (known : List (Ref × Marks)) → is_some (lookup (same_ref r) known) ≡ false → insert_entry same_ref known r m ≡ with_marks same_ref r m known
added r m known h = rw h (goes_last r m known h)
