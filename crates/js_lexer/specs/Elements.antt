-- What stands at the start of a text: the elements into which a source is divided,
-- and the forms that the profile leaves out.
use Rattle.std.specs.Prelude.{◌≡◌, ℕ, Bool, true, false, List, ◌⊎◌}
use Rattle.js_lexer.specs.declared.element.Element.{Element}
use Rattle.js_lexer.specs.declared.element.Element.TheVariants as elements
use Rattle.js_lexer.specs.declared.element.Form.{Form}
use Rattle.js_lexer.specs.declared.element.Form.TheVariants as forms
use Rattle.js_lexer.specs.declared.punctuators.Punctuator.{Punctuator}
use Rattle.js_lexer.specs.declared.punctuators.Punctuator.TheVariants as punctuators
use Rattle.js_lexer.specs.declared.token.TemplatePart.{TemplatePart}
use Rattle.js_lexer.specs.declared.token.TemplatePart.TheVariants as templates
use Rattle.js_lexer.specs.Grammar.{white_space, line_terminator, line_comment, block_comment, name, numeric_literal, string_literal, no_substitution_template, template_head, template_middle, template_tail, bigint, escaped_name, private_name, decorator}
use Rattle.js_lexer.specs.Punctuators.{IsPunctuator}
use Rattle.js_lexer.specs.Rules.{Rule, Or, Leads}

-- white space, a line terminator or a comment
-- ECMA-262 ECMAScript Language: Lexical Grammar, InputElementDiv
abbrev pub gap : Rule
gap = Or white_space (Or line_terminator (Or line_comment block_comment))

-- a template, or a part of one. Parts that begin with `}` stand inside a substitution alone
-- ECMA-262 Template Literal Lexical Components, Template and TemplateSubstitutionTail
abbrev pub IsTemplate : Bool → TemplatePart → List ℕ → List ℕ → Type 0
IsTemplate inside templates.Whole xs ys = Leads no_substitution_template xs ys
IsTemplate inside templates.Head xs ys = Leads template_head xs ys
IsTemplate inside templates.Middle xs ys = (inside ≡ true) × Leads template_middle xs ys
IsTemplate inside templates.Tail xs ys = (inside ≡ true) × Leads template_tail xs ys

-- a `}` inside a substitution closes it, and is no punctuator
-- ECMA-262 ECMAScript Language: Lexical Grammar, InputElementTemplateTail
abbrev pub MayStand : Bool → Punctuator → Type 0
MayStand inside p = inside ≡ true → ¬ (p ≡ punctuators.RightBrace)

-- the element stands at the start of the text xs, and ys is left behind it;
-- `inside` says that the innermost open brace is that of a template's substitution
-- ECMA-262 ECMAScript Language: Lexical Grammar, InputElementDiv and InputElementTemplateTail
-- own: the profile has no regular expressions, so no other goal symbol
abbrev pub Stands : Bool → Element → List ℕ → List ℕ → Type 0
Stands inside elements.Gap xs ys = Leads gap xs ys
Stands inside elements.Word xs ys = Leads name xs ys
Stands inside elements.Number xs ys = Leads (numeric_literal false) xs ys
Stands inside elements.String xs ys =
    Leads (string_literal 34) xs ys ⊎ Leads (string_literal 39) xs ys
Stands inside (elements.Template part) xs ys = IsTemplate inside part xs ys
Stands inside (elements.Punctuator p) xs ys = IsPunctuator p xs ys × MayStand inside p

-- the text begins with a form that the profile leaves out.
-- A number with separators is one that is none without
-- own: the profile refuses these forms by name
abbrev pub Shows : Form → List ℕ → Type 0
Shows forms.BigInt xs = (ys : List ℕ) × Leads bigint xs ys
Shows forms.Separator xs =
    (ys : List ℕ) × Leads (numeric_literal true) xs ys
    × ((zs : List ℕ) → ¬ (Leads (numeric_literal false) xs zs))
Shows forms.Escape xs = (ys : List ℕ) × Leads escaped_name xs ys
Shows forms.Private xs = (ys : List ℕ) × Leads private_name xs ys
Shows forms.Decorator xs = (ys : List ℕ) × Leads decorator xs ys

-- the element stands at the start of the text, and no form that is left out does
abbrev pub IsElement : Bool → Element → List ℕ → List ℕ → Type 0
IsElement inside e xs ys = Stands inside e xs ys × ((form : Form) → ¬ (Shows form xs))

-- neither an element nor a form that is left out stands at the start of the text
abbrev pub StandsNone : Bool → List ℕ → Type 0
StandsNone inside xs =
    ((e : Element) (ys : List ℕ) → ¬ (Stands inside e xs ys)) × ((form : Form) → ¬ (Shows form xs))
