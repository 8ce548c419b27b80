-- What a party has of its package, as contracts see it.
use Rattle.std.specs.Prelude.{ℕ, List, Option, map}
use Rattle.lava_base.specs.declared.ids.MadeSymbol.{MadeSymbol}
use Rattle.lava_base.specs.declared.ids.Ref.{Ref}
use Rattle.js_text.specs.declared.value.Value.{Value}
use Rattle.js_code.specs.Decoded.{template_at, term_at}
use Rattle.js_code.specs.Tables.{Tables}
use Rattle.js_operation.specs.js_run.Parties.{Loaded}
use Rattle.js_machine.specs.declared.package.Module.{Module}

pub record Package : Type 0 where
  pub name : List ℕ
  pub main : List ℕ
  pub modules : List Module
  pub links : List (List ℕ)
  pub builtin : Option (Value Ref MadeSymbol)
  pub mapped : List (List ℕ × Value Ref MadeSymbol)

-- a module with its template
abbrev pub loaded_of : Tables → Module → Loaded
loaded_of c m = record { path = m.path; template = template_at c (term_at c) m.template; begun = m.begun }

abbrev pub loaded_in : Tables → Package → List Loaded
loaded_in c p = map (loaded_of c) p.modules
