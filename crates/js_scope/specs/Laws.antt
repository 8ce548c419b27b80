-- What a name goes to, in words of its own.
use Rattle.std.specs.Prelude.{◌≡◌, ℕ, ◌<◌, List, [], Option, Some, None, get_or}
use Rattle.std.specs.Option.{option_map}
use Rattle.js_names.specs.Scopes.{found_in}
use Rattle.js_names.specs.declared.declared.DeclaredName.{DeclaredName}
use Rattle.js_scope.specs.Resolutions.{resolve_name}
use Rattle.js_scope.specs.declared.finding.Binding.{Binding}

-- the place of the first declaration of a name in a scope, if the scope declares it
abbrev pub place_in : List ℕ → List DeclaredName → Option ℕ
place_in n ds = option_map (λ f. f.at) (found_in n ds)

-- the scope declares the name there, and no scope inside it declares the name
pub record IsInnermost (n : List ℕ) (scopes : List (List DeclaredName)) (b : Binding) : Type 0 where
  pub declares : place_in n (get_or scopes b.scope []) ≡ Some b.at
  pub innermost : (k : ℕ) → b.scope < k → found_in n (get_or scopes k []) ≡ None

-- ECMA-262 ResolveBinding
abbrev pub Names_go_innermost : Type 0
Names_go_innermost = (n : List ℕ) (scopes : List (List DeclaredName)) (b : Binding) → resolve_name n scopes ≡ Some b → IsInnermost n scopes b

-- ECMA-262 ResolveBinding
abbrev pub Free_names_are_nowhere : Type 0
Free_names_are_nowhere = (n : List ℕ) (scopes : List (List DeclaredName)) → resolve_name n scopes ≡ None → (k : ℕ) → found_in n (get_or scopes k []) ≡ None
