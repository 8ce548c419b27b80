-- What runs when a function is called.
use Rattle.std.specs.Prelude.{ℕ, Bool, true, false, ◌++◌, get_or, Option, Some, None}
use Rattle.lava_base.specs.declared.ids.MadeSymbol.{MadeSymbol}
use Rattle.lava_base.specs.declared.ids.Ref.{Ref}
use Rattle.js_text.specs.declared.value.Value.{Value}
use Rattle.js_store.specs.declared.slot.Lexical.{Lexical}
use Rattle.js_term.specs.declared.term.Template.{Template}
use Rattle.js_term.specs.declared.term.TemplateKind.{TemplateKind}
use Rattle.js_term.specs.declared.term.TemplateKind.TheVariants as kind
use Rattle.js_operation.specs.js_run.Parties as parties
use Rattle.js_operation.specs.js_run.Parties.{no_template}
use Rattle.js_machine.specs.Views.{View, templates_at}

-- the constructor of a class is not called
abbrev pub needs_new : TemplateKind → Bool
needs_new kind.Base = true
needs_new kind.Derived = true
needs_new _ = false

-- the body of a call: an arrow has what it took from the body that made it
abbrev pub called_body : (scope : ℕ) → TemplateKind → (function : Ref) → (home : Option Ref) → Option (Lexical Ref MadeSymbol) → (this : Value Ref MadeSymbol) → parties.Body Ref MadeSymbol
called_body s k f home None this = record { kind = k; scope = s; this = Some this; new_target = None; function = Some f; home = home }
called_body s k f home (Some l) this = record { kind = k; scope = s; this = l.this; new_target = l.new_target; function = l.function; home = home }

-- the template of a number
abbrev pub template_numbered : View → ℕ → Template
template_numbered w n = get_or (templates_at w.code w.common_templates ++ templates_at w.code w.templates) n no_template
