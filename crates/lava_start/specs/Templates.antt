-- Templates and modules that have their places in a code.
use Rattle.std.specs.Prelude.{◌≡◌, ℕ, ◌<◌, ◌≤◌, List, [], ◌∷◌, length, map, None, ⊤}
use Rattle.js_code.specs.Decoded.{template_at, term_at}
use Rattle.js_code.specs.Tables.{Tables}
use Rattle.js_world.specs.js_machine.Packages.{loaded_of}
use Rattle.js_world.specs.js_machine.declared.package.Module.{Module}
use Rattle.js_world.specs.js_run.Parties.{Loaded}
use Rattle.js_term.specs.declared.term.Template.{Template}
use Rattle.lava_start.specs.declared.modules.SourceModule.{SourceModule}

-- each template that has a place keeps it
pub record KeepsTemplates (c d : Tables) : Type 0 where
  pub more : length c.templates ≤ length d.templates
  pub same : (k : ℕ) → k < length c.templates → template_at d (term_at d) k ≡ template_at c (term_at c) k

-- these are places of a code
abbrev pub ArePlaces : Tables → List ℕ → Type 0
ArePlaces c [] = ⊤
ArePlaces c (k ∷ ks) = (k < length c.templates) × ArePlaces c ks

-- these places have these templates
pub record HaveTemplates (c : Tables) (places : List ℕ) (templates : List Template) : Type 0 where
  pub within : ArePlaces c places
  pub are : map (template_at c (term_at c)) places ≡ templates

-- a module that has not begun
abbrev pub loaded_source : SourceModule → Loaded
loaded_source s = record { path = s.path; template = s.template; begun = None }

-- the modules' templates have places in a code
abbrev pub ModulesWithin : Tables → List Module → Type 0
ModulesWithin c [] = ⊤
ModulesWithin c (m ∷ ms) = (m.template < length c.templates) × ModulesWithin c ms

-- these are the modules of these sources
pub record HaveSources (c : Tables) (modules : List Module) (sources : List SourceModule) : Type 0 where
  pub within : ModulesWithin c modules
  pub are : map (loaded_of c) modules ≡ map loaded_source sources
