-- Sheets that no reader can tell apart.
use Rattle.std.specs.Prelude.{◌≡◌, List}
use Rattle.std.specs.Map.{lookup}
use Rattle.lava_base.specs.Ids.{same_ref}
use Rattle.lava_base.specs.declared.ids.Ref.{Ref}
use Rattle.lava_base.specs.declared.marks.Marks.{Marks}
use Rattle.lava_journal.specs.Sheets.{Sheet}

-- two lists of marks in which the same is found
abbrev pub FindsAlike : List (Ref × Marks) → List (Ref × Marks) → Type 0
FindsAlike a b = (r : Ref) → lookup (same_ref r) a ≡ lookup (same_ref r) b

-- two sheets that differ in their lists of marks alone, in which the same is found
pub record AreAlike (s t : Sheet) : Type 0 where
  pub text : s.text ≡ t.text
  pub names : s.names ≡ t.names
  pub marks : FindsAlike s.marks t.marks
