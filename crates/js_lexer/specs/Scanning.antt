-- What takes the next element, one function a Rust function. `Elements` says what they mean.
use Rattle.std.specs.Prelude.{ℕ, ◌==◌, ◌||◌, ◌&&◌, Bool, if◌then◌else◌, List, [], ◌∷◌, Option, Some, None, Result, Ok, Err}
use Rattle.js_lexer.specs.declared.machine.Stop.{Stop}
use Rattle.js_lexer.specs.declared.machine.Stop.TheVariants as stops
use Rattle.js_lexer.specs.declared.comments.Comment.TheVariants as comments
use Rattle.js_lexer.specs.declared.element.Element.{Element}
use Rattle.js_lexer.specs.declared.element.Element.TheVariants as elements
use Rattle.js_lexer.specs.declared.element.Form.{Form}
use Rattle.js_lexer.specs.declared.element.Form.TheVariants as forms
use Rattle.js_lexer.specs.declared.element.NoElement.{NoElement}
use Rattle.js_lexer.specs.declared.element.NoElement.TheVariants.{Stopped, LeftOut}
use Rattle.js_lexer.specs.declared.escapes.Escape.TheVariants as escapes
use Rattle.js_lexer.specs.declared.numbers.Numeral.{Numeral}
use Rattle.js_lexer.specs.declared.numbers.Numeral.TheVariants as numerals
use Rattle.js_lexer.specs.declared.numbers.NumberPart.TheVariants as number_parts
use Rattle.js_lexer.specs.declared.punctuators.Punctuator.{Punctuator}
use Rattle.js_lexer.specs.declared.quoted.End.{End}
use Rattle.js_lexer.specs.declared.quoted.End.TheVariants as ends
use Rattle.js_lexer.specs.declared.quoted.Quote.{Quote}
use Rattle.js_lexer.specs.declared.quoted.Quote.TheVariants as quotes
use Rattle.js_lexer.specs.declared.token.TemplatePart.{TemplatePart}
use Rattle.js_lexer.specs.declared.token.TemplatePart.TheVariants as templates
use Rattle.js_lexer.specs.Characters.{is_digit, is_line_terminator, is_name_part, is_name_start, is_white_space}
use Rattle.js_lexer.specs.Comments.{comment_step, comment_stop}
use Rattle.js_lexer.specs.Skipping.{skip}
use Rattle.js_lexer.specs.Escapes.{escape_step, escape_stop}
use Rattle.js_lexer.specs.Grammar.{in_line}
use Rattle.js_lexer.specs.Machines.{Reading, run}
use Rattle.js_lexer.specs.Numbers.{number_step, number_stop}
use Rattle.js_lexer.specs.Punctuators.{punctuator_of}
use Rattle.js_lexer.specs.Quoted.{quoted_step, quoted_stop, opened}
use Rattle.js_lexer.specs.Rules.{begins_with}

abbrev pub Taking : Type 0
Taking = Result (Element × List ℕ) NoElement

abbrev pub refused : Stop → Taking
refused stop = Err (Stopped stop)

-- a text without its first character
abbrev pub behind_first : List ℕ → List ℕ
behind_first [] = []
behind_first (c ∷ cs) = cs

-- the escape behind a backslash
abbrev pub escape_reading : List ℕ → Reading (Unit {0})
escape_reading xs = run escape_step escape_stop escapes.Backslash xs

-- a form that is left out where the escape was read
abbrev pub left_out : Form → Reading (Unit {0}) → Taking
left_out form (Ok r) = Err (LeftOut form)
left_out form (Err stop) = refused stop

abbrev pub word_unless : List ℕ → Reading (Unit {0}) → Taking
word_unless xs (Ok r) = Err (LeftOut forms.Escape)
word_unless xs (Err stop) = Ok (elements.Word, xs)

-- what is behind a name
abbrev pub word_ending : List ℕ → Taking
word_ending [] = Ok (elements.Word, [])
word_ending (c ∷ cs) =
    if c == 92 then word_unless (c ∷ cs) (escape_reading cs) else Ok (elements.Word, c ∷ cs)

abbrev pub word_of : List ℕ → Taking
word_of xs = word_ending (skip is_name_part xs)

abbrev pub numeral_taken : Numeral → List ℕ → Taking
numeral_taken numerals.Number xs = Ok (elements.Number, xs)
numeral_taken numerals.Separated xs = Err (LeftOut forms.Separator)
numeral_taken numerals.BigInt xs = Err (LeftOut forms.BigInt)

abbrev pub number_taken : Reading Numeral → Taking
number_taken (Ok r) = numeral_taken r.0 r.1
number_taken (Err stop) = refused stop

abbrev pub number_of : List ℕ → Taking
number_of xs = number_taken (run number_step number_stop number_parts.Start xs)

abbrev pub string_taken : Reading End → Taking
string_taken (Ok r) = Ok (elements.String, r.1)
string_taken (Err stop) = refused stop

abbrev pub string_of : Quote → List ℕ → Taking
string_of quote xs = string_taken (run quoted_step quoted_stop (opened quote) (behind_first xs))

abbrev pub part_of : TemplatePart → TemplatePart → End → TemplatePart
part_of closed goes_on ends.Closed = closed
part_of closed goes_on ends.Substitution = goes_on

abbrev pub template_taken : TemplatePart → TemplatePart → Reading End → Taking
template_taken closed goes_on (Ok r) = Ok (elements.Template (part_of closed goes_on r.0), r.1)
template_taken closed goes_on (Err stop) = refused stop

abbrev pub template_of : TemplatePart → TemplatePart → List ℕ → Taking
template_of closed goes_on xs = template_taken closed goes_on (run quoted_step quoted_stop (opened quotes.Template) (behind_first xs))

abbrev pub mark_taken : Option (Punctuator × List ℕ) → Taking
mark_taken None = refused stops.Bad
mark_taken (Some r) = Ok (elements.Punctuator r.0, r.1)

abbrev pub mark_of : List ℕ → Taking
mark_of xs = mark_taken (punctuator_of xs)

abbrev pub gap_taken : Reading (Unit {0}) → Taking
gap_taken (Ok r) = Ok (elements.Gap, r.1)
gap_taken (Err stop) = refused stop

-- behind a `/` that the text begins with
abbrev pub slash_taken : List ℕ → List ℕ → Taking
slash_taken xs [] = mark_of xs
slash_taken xs (c ∷ cs) =
    if c == 47 then Ok (elements.Gap, skip in_line cs)
    else if c == 42 then gap_taken (run comment_step comment_stop comments.Inside cs)
    else mark_of xs

abbrev pub slash_of : List ℕ → Taking
slash_of xs = slash_taken xs (behind_first xs)

abbrev pub dot_of : List ℕ → Taking
dot_of xs = if begins_with is_digit (behind_first xs) then number_of xs else mark_of xs

abbrev pub escape_of : List ℕ → Taking
escape_of xs = left_out forms.Escape (escape_reading (behind_first xs))

-- behind a `#`
abbrev pub private_taken : List ℕ → Taking
private_taken [] = refused stops.Cut
private_taken (c ∷ cs) =
    if c == 92 then left_out forms.Private (escape_reading cs)
    else if is_name_start c then Err (LeftOut forms.Private)
    else refused stops.Bad

abbrev pub private_of : List ℕ → Taking
private_of xs = private_taken (behind_first xs)

-- the elements that begin with neither a name start nor white space nor a digit
abbrev pub other_of : Bool → ℕ → List ℕ → Taking
other_of inside c xs =
    if c == 34 then string_of quotes.Double xs
    else if c == 39 then string_of quotes.Single xs
    else if c == 96 then template_of templates.Whole templates.Head xs
    else if c == 125 && inside then template_of templates.Tail templates.Middle xs
    else if c == 47 then slash_of xs
    else if c == 46 then dot_of xs
    else if c == 92 then escape_of xs
    else if c == 35 then private_of xs
    else if c == 64 then Err (LeftOut forms.Decorator)
    else mark_of xs

-- the elements that begin with no name start
abbrev pub unnamed_of : Bool → ℕ → List ℕ → Taking
unnamed_of inside c xs =
    if is_white_space c || is_line_terminator c then Ok (elements.Gap, behind_first xs)
    else if is_digit c then number_of xs
    else other_of inside c xs

abbrev pub element_of : Bool → List ℕ → Taking
element_of inside [] = refused stops.Bad
element_of inside (c ∷ cs) = if is_name_start c then word_of cs else unnamed_of inside c (c ∷ cs)
