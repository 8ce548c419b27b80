-- What each token is to the grammar: its terminal, which may hang on the token behind it.
use Rattle.std.specs.Prelude.{ℕ, Bool, true, false, ◌&&◌, ◌||◌, nat_le, if◌then◌else◌, List, [], ◌∷◌, length, slice_range, codes}
use Rattle.std.specs.Str.{bytes_eq}
use Rattle.js_grammar.specs.declared.symbols.Terminal.{Terminal}
use Rattle.js_grammar.specs.declared.symbols.Terminal.TheVariants as terminal
use Rattle.js_lexer.specs.declared.keywords.Keyword.{Keyword}
use Rattle.js_lexer.specs.declared.keywords.Keyword.TheVariants as keyword
use Rattle.js_lexer.specs.declared.punctuators.Punctuator.{Punctuator}
use Rattle.js_lexer.specs.declared.punctuators.Punctuator.TheVariants as punctuator
use Rattle.js_lexer.specs.declared.token.Token.{Token}
use Rattle.js_lexer.specs.declared.token.TokenKind.{TokenKind}
use Rattle.js_lexer.specs.declared.token.TokenKind.TheVariants as kind
use Rattle.js_lexer.specs.declared.token.TemplatePart.{TemplatePart}
use Rattle.js_lexer.specs.declared.token.TemplatePart.TheVariants as template

-- the bytes of a token; none where it is no token of the source
abbrev pub text_of : List ℕ → Token → List ℕ
text_of source t =
    if nat_le t.from t.to && nat_le t.to (length source) then slice_range source t.from t.to else []

-- what the token behind is

abbrev pub is_colon : TokenKind → Bool
is_colon (kind.Punctuator punctuator.Colon) = true
is_colon _ = false

abbrev pub is_dot : TokenKind → Bool
is_dot (kind.Punctuator punctuator.Dot) = true
is_dot _ = false

abbrev pub is_ellipsis : TokenKind → Bool
is_ellipsis (kind.Punctuator punctuator.Ellipsis) = true
is_ellipsis _ = false

abbrev pub is_name : TokenKind → Bool
is_name kind.Name = true
is_name _ = false

-- a property name begins with it
-- ECMA-262 Object Initializer, PropertyName
abbrev pub is_key : TokenKind → Bool
is_key kind.Name = true
is_key (kind.Keyword k) = true
is_key kind.String = true
is_key kind.Number = true
is_key (kind.Punctuator punctuator.LeftBracket) = true
is_key _ = false

-- whether the first of these tokens, which stand behind another, is such a one
abbrev pub before : (TokenKind → Bool) → List Token → Bool
before test [] = false
before test (t ∷ ts) = test t.kind

abbrev pub before_of : List ℕ → List Token → Bool
before_of source [] = false
before_of source (t ∷ ts) = is_name t.kind && bytes_eq (text_of source t) (codes "of")

-- a name before `:` may be a label
-- ECMA-262 Labelled Statements, LabelIdentifier
abbrev pub label_terminal : List ℕ → Terminal
label_terminal w =
    if bytes_eq w (codes "of") then terminal.OfColon
    else if bytes_eq w (codes "target") then terminal.TargetColon
    else if bytes_eq w (codes "__proto__") then terminal.ProtoColon
    else terminal.NameColon

-- `get` and `set` before a property name begin an accessor, `async` before `of` may not begin the head of a for-of statement
-- ECMA-262 Method Definitions, MethodDefinition
-- ECMA-262 The for, for-in, for-of Statements, ForInOfStatement
abbrev pub name_terminal : List ℕ → List ℕ → List Token → Terminal
name_terminal source w later =
    if bytes_eq w (codes "of") then terminal.Of
    else if bytes_eq w (codes "target") then terminal.Target
    else if bytes_eq w (codes "get") && before is_key later then terminal.Get
    else if bytes_eq w (codes "set") && before is_key later then terminal.Set
    else if bytes_eq w (codes "async") && before_of source later then terminal.AsyncOf
    else terminal.Name

-- the terminal of a keyword, whatever stands behind it
-- ECMA-262 Keywords and Reserved Words, ReservedWord
abbrev pub word_terminal : Keyword → Terminal
word_terminal keyword.Break = terminal.BreakOrContinue
word_terminal keyword.Case = terminal.Case
word_terminal keyword.Catch = terminal.Catch
word_terminal keyword.Class = terminal.Class
word_terminal keyword.Const = terminal.LetOrConst
word_terminal keyword.Continue = terminal.BreakOrContinue
word_terminal keyword.Debugger = terminal.Debugger
word_terminal keyword.Default = terminal.Default
word_terminal keyword.Delete = terminal.UnaryWord
word_terminal keyword.Do = terminal.Do
word_terminal keyword.Else = terminal.Else
word_terminal keyword.Enum = terminal.Reserved
word_terminal keyword.Export = terminal.Export
word_terminal keyword.Extends = terminal.Extends
word_terminal keyword.False = terminal.NullOrBoolean
word_terminal keyword.Finally = terminal.Finally
word_terminal keyword.For = terminal.For
word_terminal keyword.Function = terminal.Function
word_terminal keyword.If = terminal.If
word_terminal keyword.Import = terminal.Import
word_terminal keyword.In = terminal.In
word_terminal keyword.Instanceof = terminal.Instanceof
word_terminal keyword.New = terminal.New
word_terminal keyword.Null = terminal.NullOrBoolean
word_terminal keyword.Return = terminal.Return
word_terminal keyword.Super = terminal.Super
word_terminal keyword.Switch = terminal.Switch
word_terminal keyword.This = terminal.This
word_terminal keyword.Throw = terminal.Throw
word_terminal keyword.True = terminal.NullOrBoolean
word_terminal keyword.Try = terminal.Try
word_terminal keyword.Typeof = terminal.UnaryWord
word_terminal keyword.Var = terminal.Var
word_terminal keyword.Void = terminal.UnaryWord
word_terminal keyword.While = terminal.While
word_terminal keyword.With = terminal.With
word_terminal keyword.Yield = terminal.Reserved
word_terminal keyword.Let = terminal.LetOrConst
word_terminal keyword.Static = terminal.Static
word_terminal keyword.Implements = terminal.Reserved
word_terminal keyword.Interface = terminal.Reserved
word_terminal keyword.Package = terminal.Reserved
word_terminal keyword.Private = terminal.Reserved
word_terminal keyword.Protected = terminal.Reserved
word_terminal keyword.Public = terminal.Reserved

-- `new` before `.` begins `new.target`, `static` before a property name a static member
-- ECMA-262 Left-Hand-Side Expressions, NewTarget
-- ECMA-262 Class Definitions, ClassElement
abbrev pub keyword_terminal : Keyword → List Token → Terminal
keyword_terminal keyword.New later = if before is_dot later then terminal.NewDot else terminal.New
keyword_terminal keyword.Static later = if before is_key later then terminal.StaticKey else terminal.Static
keyword_terminal k later = word_terminal k

-- the terminal of a punctuator, whatever stands beside it
-- ECMA-262 Punctuators, Punctuator
abbrev pub mark_terminal : Punctuator → Terminal
mark_terminal punctuator.LeftBrace = terminal.LeftBrace
mark_terminal punctuator.RightBrace = terminal.RightBrace
mark_terminal punctuator.LeftParenthesis = terminal.LeftParenthesis
mark_terminal punctuator.RightParenthesis = terminal.RightParenthesis
mark_terminal punctuator.LeftBracket = terminal.LeftBracket
mark_terminal punctuator.RightBracket = terminal.RightBracket
mark_terminal punctuator.Dot = terminal.Dot
mark_terminal punctuator.Ellipsis = terminal.Ellipsis
mark_terminal punctuator.Semicolon = terminal.Semicolon
mark_terminal punctuator.Comma = terminal.Comma
mark_terminal punctuator.Less = terminal.RelationalOperator
mark_terminal punctuator.Greater = terminal.RelationalOperator
mark_terminal punctuator.LessOrEqual = terminal.RelationalOperator
mark_terminal punctuator.GreaterOrEqual = terminal.RelationalOperator
mark_terminal punctuator.Equal = terminal.EqualityOperator
mark_terminal punctuator.NotEqual = terminal.EqualityOperator
mark_terminal punctuator.StrictEqual = terminal.EqualityOperator
mark_terminal punctuator.StrictNotEqual = terminal.EqualityOperator
mark_terminal punctuator.Plus = terminal.PlusOrMinus
mark_terminal punctuator.Minus = terminal.PlusOrMinus
mark_terminal punctuator.Star = terminal.Star
mark_terminal punctuator.Slash = terminal.Slash
mark_terminal punctuator.Percent = terminal.Percent
mark_terminal punctuator.StarStar = terminal.StarStar
mark_terminal punctuator.Increment = terminal.UpdateOperator
mark_terminal punctuator.Decrement = terminal.UpdateOperator
mark_terminal punctuator.ShiftLeft = terminal.ShiftOperator
mark_terminal punctuator.ShiftRight = terminal.ShiftOperator
mark_terminal punctuator.UnsignedShiftRight = terminal.ShiftOperator
mark_terminal punctuator.Ampersand = terminal.Ampersand
mark_terminal punctuator.Bar = terminal.Bar
mark_terminal punctuator.Caret = terminal.Caret
mark_terminal punctuator.Exclamation = terminal.UnaryMark
mark_terminal punctuator.Tilde = terminal.UnaryMark
mark_terminal punctuator.LogicalAnd = terminal.LogicalAnd
mark_terminal punctuator.LogicalOr = terminal.LogicalOr
mark_terminal punctuator.Coalesce = terminal.Coalesce
mark_terminal punctuator.Question = terminal.Question
mark_terminal punctuator.OptionalChain = terminal.OptionalChain
mark_terminal punctuator.Colon = terminal.Colon
mark_terminal punctuator.Assign = terminal.Equals
mark_terminal punctuator.AddAssign = terminal.AssignmentOperator
mark_terminal punctuator.SubtractAssign = terminal.AssignmentOperator
mark_terminal punctuator.MultiplyAssign = terminal.AssignmentOperator
mark_terminal punctuator.DivideAssign = terminal.SlashEquals
mark_terminal punctuator.RemainderAssign = terminal.AssignmentOperator
mark_terminal punctuator.ExponentiateAssign = terminal.AssignmentOperator
mark_terminal punctuator.ShiftLeftAssign = terminal.AssignmentOperator
mark_terminal punctuator.ShiftRightAssign = terminal.AssignmentOperator
mark_terminal punctuator.UnsignedShiftRightAssign = terminal.AssignmentOperator
mark_terminal punctuator.BitAndAssign = terminal.AssignmentOperator
mark_terminal punctuator.BitOrAssign = terminal.AssignmentOperator
mark_terminal punctuator.BitXorAssign = terminal.AssignmentOperator
mark_terminal punctuator.LogicalAndAssign = terminal.AssignmentOperator
mark_terminal punctuator.LogicalOrAssign = terminal.AssignmentOperator
mark_terminal punctuator.CoalesceAssign = terminal.AssignmentOperator
mark_terminal punctuator.Arrow = terminal.Arrow

-- `=>`, and `++` and `--` behind a value, are not behind a line terminator; `,` before `...` may be before a rest element
-- ECMA-262 Arrow Function Definitions, ArrowFunction
-- ECMA-262 Update Expressions, UpdateExpression
-- ECMA-262 Destructuring Binding Patterns, ArrayBindingPattern
abbrev pub punctuator_terminal : Punctuator → Bool → List Token → Terminal
punctuator_terminal punctuator.Comma after_line later = if before is_ellipsis later then terminal.CommaRest else terminal.Comma
punctuator_terminal punctuator.Arrow after_line later = if after_line then terminal.ArrowAfterLine else terminal.Arrow
punctuator_terminal punctuator.Increment after_line later = if after_line then terminal.UpdateOperatorAfterLine else terminal.UpdateOperator
punctuator_terminal punctuator.Decrement after_line later = if after_line then terminal.UpdateOperatorAfterLine else terminal.UpdateOperator
punctuator_terminal mark after_line later = mark_terminal mark

-- a text of the value `__proto__` before `:` sets a prototype
-- ECMA-262 __proto__ Property Names in Object Initializers
abbrev pub is_proto : List ℕ → Bool
is_proto w = bytes_eq w (codes "'__proto__'") || bytes_eq w (codes "\"__proto__\"")

abbrev pub string_terminal : List ℕ → List Token → Terminal
string_terminal w later =
    if before is_colon later && is_proto w then terminal.ProtoString else terminal.String

-- ECMA-262 Template Literals, TemplateLiteral
abbrev pub template_terminal : TemplatePart → Terminal
template_terminal template.Whole = terminal.Template
template_terminal template.Head = terminal.TemplateHead
template_terminal template.Middle = terminal.TemplateMiddle
template_terminal template.Tail = terminal.TemplateTail

abbrev pub word_or_label : List ℕ → List ℕ → List Token → Terminal
word_or_label source w later =
    if before is_colon later then label_terminal w else name_terminal source w later

-- the terminal of a token of a kind, behind a line terminator or not, before these tokens
abbrev pub kind_terminal : List ℕ → List ℕ → TokenKind → Bool → List Token → Terminal
kind_terminal source w kind.Name after_line later = word_or_label source w later
kind_terminal source w (kind.Keyword k) after_line later = keyword_terminal k later
kind_terminal source w (kind.Punctuator p) after_line later = punctuator_terminal p after_line later
kind_terminal source w kind.Number after_line later = terminal.Number
kind_terminal source w kind.String after_line later = string_terminal w later
kind_terminal source w (kind.Template part) after_line later = template_terminal part

-- ECMA-262 Grammar Summary
unfoldable pub terminal_of : List ℕ → Token → List Token → Terminal
terminal_of source t later = kind_terminal source (text_of source t) t.kind t.after_line later
