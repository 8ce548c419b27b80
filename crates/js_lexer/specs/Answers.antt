-- What `tokens` answers.
use Rattle.std.specs.Prelude.{◌≡◌, ℕ, ◌≤◌, List, [], ◌∷◌, codes, ◌⊎◌, Result, MatchResult}
use Rattle.lava_base.specs.declared.place.Place.{Place}
use Rattle.js_fault.specs.declared.fault.SyntaxFault.{SyntaxFault}
use Rattle.js_fault.specs.declared.fault.SyntaxFault.TheVariants as fault
use Rattle.js_fault.specs.declared.fault.SyntaxWhat.{SyntaxWhat}
use Rattle.js_fault.specs.declared.fault.SyntaxWhat.TheVariants as what
use Rattle.js_lexer.specs.declared.element.Form.{Form}
use Rattle.js_lexer.specs.declared.element.Form.TheVariants as forms
use Rattle.js_lexer.specs.declared.token.Token.{Token}
use Rattle.js_lexer.specs.Sources.{IsBadToken, IsUnsupported, IsNotUtf8}

-- the name by which a form that is left out is told
-- own: the profile refuses these forms by name
abbrev pub form_name : Form → List ℕ
form_name forms.BigInt = codes "bigint"
form_name forms.Separator = codes "separator"
form_name forms.Escape = codes "escape"
form_name forms.Private = codes "private"
form_name forms.Decorator = codes "decorator"

-- what is wrong with a source, and at which place
-- own: which of several faults is told, and where
abbrev pub IsFault : List ℕ → Place → SyntaxWhat → Type 0
IsFault bytes place what.NotUtf8 = IsNotUtf8 bytes place
IsFault bytes place what.BadToken = IsBadToken bytes place
IsFault bytes place (what.Unsupported name) =
    (form : Form) × (name ≡ form_name form) × IsUnsupported bytes place form
IsFault bytes place what.Unexpected = ⊥
IsFault bytes place what.TooDeep = ⊥
IsFault bytes place (what.Early name) = ⊥

-- a refusal has its cause; want of memory may come anywhere
abbrev pub HasCause : List ℕ → SyntaxFault → Type 0
HasCause bytes (fault.At place what) = IsFault bytes place what
HasCause bytes fault.OutOfMemory = Unit {0}

-- the answer is these tokens, or want of memory
abbrev pub GivesTokens : Result (List Token) SyntaxFault → List Token → Type 0
GivesTokens answer tokens =
    MatchResult answer (λ given. given ≡ tokens) (λ f. f ≡ fault.OutOfMemory)

-- the answer is this refusal, or want of memory
abbrev pub Refuses : Result (List Token) SyntaxFault → Place → SyntaxWhat → Type 0
Refuses answer place what =
    MatchResult answer (λ given. ⊥) (λ f. (f ≡ fault.At place what) ⊎ (f ≡ fault.OutOfMemory))

-- the tokens stand one after the other, from one byte on up to another
abbrev pub StandInOrder : ℕ → List Token → ℕ → Type 0
StandInOrder from [] to = from ≤ to
StandInOrder from (t ∷ ts) to = (from ≤ t.from) × (t.from ≤ t.to) × StandInOrder t.to ts to
