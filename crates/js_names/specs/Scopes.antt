-- A scope as the list of the names that it declares.
use Rattle.std.specs.Prelude.{◌≡◌, ℕ, suc, Bool, List, [], ◌∷◌, ◌++◌, Option, Some, None, is_some, if◌then◌else◌}
use Rattle.std.specs.Option.{option_map}
use Rattle.js_text.specs.Texts.{same_units}
use Rattle.js_names.specs.declared.declared.DeclaredName.{DeclaredName}
use Rattle.js_names.specs.declared.declared.FoundName.{FoundName}

abbrev pub found_at : ℕ → DeclaredName → FoundName
found_at at d = record { at = at; place = d.place; constant = d.constant }

abbrev pub one_further : FoundName → FoundName
one_further f = record f { at = suc f.at }

-- the first declaration of a name, and how many stand before it
-- ECMA-262 HasBinding
abbrev pub found_in : List ℕ → List DeclaredName → Option FoundName
found_in n [] = None
found_in n (d ∷ ds) = if same_units d.name n then Some (found_at 0 d) else option_map one_further (found_in n ds)

abbrev pub has_name : List ℕ → List DeclaredName → Bool
has_name n ds = is_some (found_in n ds)

-- one more name; one that stands already is not declared again
abbrev pub with_name : List DeclaredName → DeclaredName → List DeclaredName
with_name ds d = if has_name d.name ds then ds else ds ++ d ∷ []

abbrev pub with_names : List DeclaredName → List DeclaredName → List DeclaredName
with_names ds [] = ds
with_names ds (e ∷ es) = with_names (with_name ds e) es

-- an index finds each name where it stands first
pub record IsIndexed (index : List ℕ → Option FoundName) (ds : List DeclaredName) : Type 0 where
  pub indexed : (n : List ℕ) → index n ≡ found_in n ds
