-- A terminal hangs on nothing behind its token but the next one, and without it is the plain one.
use Rattle.std.proofs.Common.{◌≡◌, ℕ, Bool, true, false, if◌then◌else◌, ◌&&◌, List, [], ◌∷◌, codes, refl, ◌∙◌}
use Rattle.std.specs.Str.{bytes_eq}
use Rattle.js_grammar.specs.declared.symbols.Terminal.{Terminal}
use Rattle.js_grammar.specs.declared.symbols.Terminal.TheVariants as terminal
use Rattle.js_grammar.specs.Table
use Rattle.js_grammar.specs.Table.{plain_of}
use Rattle.js_grammar.specs.Laws.{is_closing}
use Rattle.js_lexer.specs.declared.keywords.Keyword.{Keyword}
use Rattle.js_lexer.specs.declared.keywords.Keyword.TheVariants as keyword
use Rattle.js_lexer.specs.declared.punctuators.Punctuator.{Punctuator}
use Rattle.js_lexer.specs.declared.punctuators.Punctuator.TheVariants as punctuator
use Rattle.js_lexer.specs.declared.token.Token.{Token}
use Rattle.js_lexer.specs.declared.token.TokenKind.{TokenKind}
use Rattle.js_lexer.specs.declared.token.TokenKind.TheVariants as kind
use Rattle.js_lexer.specs.declared.token.TemplatePart.{TemplatePart}
use Rattle.js_lexer.specs.declared.token.TemplatePart.TheVariants as template
use Rattle.js_reader.specs.Terminals.{is_key, is_dot, is_colon, is_ellipsis, before, before_of, text_of, is_proto, label_terminal, name_terminal, keyword_terminal, punctuator_terminal, template_terminal, kind_terminal, terminal_of}

-- the same choice, whichever tokens stand behind the next one
word_ahead : (k : Keyword) (u : Token) (r s : List Token) → keyword_terminal k (u ∷ r) ≡ keyword_terminal k (u ∷ s)
word_ahead keyword.New u r s = refl
word_ahead keyword.Static u r s = refl
word_ahead _ u r s = refl

mark_ahead : (p : Punctuator) (l : Bool) (u : Token) (r s : List Token) → punctuator_terminal p l (u ∷ r) ≡ punctuator_terminal p l (u ∷ s)
mark_ahead punctuator.Comma l u r s = refl
mark_ahead punctuator.Arrow l u r s = refl
mark_ahead punctuator.Increment l u r s = refl
mark_ahead punctuator.Decrement l u r s = refl
mark_ahead _ l u r s = refl

kind_ahead : (source w : List ℕ) (k : TokenKind) (l : Bool) (u : Token) (r s : List Token) → kind_terminal source w k l (u ∷ r) ≡ kind_terminal source w k l (u ∷ s)
kind_ahead source w kind.Name l u r s = refl
kind_ahead source w (kind.Keyword k) l u r s = word_ahead k u r s
kind_ahead source w (kind.Punctuator p) l u r s = mark_ahead p l u r s
kind_ahead source w kind.Number l u r s = refl
kind_ahead source w kind.String l u r s = refl
kind_ahead source w (kind.Template part) l u r s = refl

pub one_ahead : (source : List ℕ) (t u : Token) (r s : List Token) → terminal_of source t (u ∷ r) ≡ terminal_of source t (u ∷ s)
unfolding terminal_of
one_ahead source t u r s = kind_ahead source (text_of source t) t.kind t.after_line u r s

-- the plain terminal of a choice
plain_if : (b : Bool) (x y z : Terminal) → plain_of x ≡ z → plain_of y ≡ z → plain_of (if b then x else y) ≡ z
plain_if true x y z e f = e
plain_if false x y z e f = f

never : (b : Bool) (x y : Terminal) → (if b && false then x else y) ≡ y
never true x y = refl
never false x y = refl

plain_names : (plain_of terminal.Get ≡ terminal.Name) × (plain_of terminal.Set ≡ terminal.Name) × (plain_of terminal.AsyncOf ≡ terminal.Name) × (plain_of terminal.Name ≡ terminal.Name) × (plain_of terminal.Of ≡ terminal.Of) × (plain_of terminal.Target ≡ terminal.Target)
unfolding Table.plain_of
plain_names = (refl, refl, refl, refl, refl, refl)

abbrev base : Bool → Bool → Terminal
base b c = if b then terminal.Of else if c then terminal.Target else terminal.Name

label_plain : (b c d : Bool) → plain_of (if b then terminal.OfColon else if c then terminal.TargetColon else if d then terminal.ProtoColon else terminal.NameColon) ≡ base b c
unfolding Table.plain_of
label_plain true c d = refl
label_plain false true d = refl
label_plain false false true = refl
label_plain false false false = refl

later_plain : (d e s : Bool) → plain_of (if d then terminal.Get else if e then terminal.Set else if s then terminal.AsyncOf else terminal.Name) ≡ terminal.Name
later_plain d e s =
    plain_if d _ _ _ plain_names.0 (plain_if e _ _ _ plain_names.1 (plain_if s _ _ _ plain_names.2 plain_names.3))

name_plain : (b c d e s : Bool) → plain_of (if b then terminal.Of else if c then terminal.Target else if d then terminal.Get else if e then terminal.Set else if s then terminal.AsyncOf else terminal.Name) ≡ base b c
name_plain true c d e s = plain_names.4
name_plain false true d e s = plain_names.5
name_plain false false d e s = later_plain d e s

name_alone : (b c d e s : Bool) → base b c ≡ (if b then terminal.Of else if c then terminal.Target else if d && false then terminal.Get else if e && false then terminal.Set else if s && false then terminal.AsyncOf else terminal.Name)
name_alone true c d e s = refl
name_alone false true d e s = refl
name_alone false false d e s = rw (never d _ _, never e _ _, never s _ _) refl

words_plain : (source w : List ℕ) (later : List Token) (b : Bool) → plain_of (if b then label_terminal w else name_terminal source w later) ≡ name_terminal source w []
words_plain source w later true = label_plain (bytes_eq w (codes "of")) (bytes_eq w (codes "target")) (bytes_eq w (codes "__proto__")) ∙ name_alone (bytes_eq w (codes "of")) (bytes_eq w (codes "target")) (bytes_eq w (codes "get")) (bytes_eq w (codes "set")) (bytes_eq w (codes "async"))
words_plain source w later false = name_plain (bytes_eq w (codes "of")) (bytes_eq w (codes "target")) (bytes_eq w (codes "get") && before is_key later) (bytes_eq w (codes "set") && before is_key later) (bytes_eq w (codes "async") && before_of source later) ∙ name_alone (bytes_eq w (codes "of")) (bytes_eq w (codes "target")) (bytes_eq w (codes "get")) (bytes_eq w (codes "set")) (bytes_eq w (codes "async"))

keyword_plain : (k : Keyword) (later : List Token) → plain_of (keyword_terminal k later) ≡ keyword_terminal k []
unfolding Table.plain_of
keyword_plain keyword.New later = by (before is_dot later)
  where
    by : (b : Bool) → plain_of (if b then terminal.NewDot else terminal.New) ≡ terminal.New
    by true = refl
    by false = refl
keyword_plain keyword.Static later = by (before is_key later)
  where
    by : (b : Bool) → plain_of (if b then terminal.StaticKey else terminal.Static) ≡ terminal.Static
    by true = refl
    by false = refl
keyword_plain _ later = refl

mark_plain : (p : Punctuator) (l : Bool) (later : List Token) → plain_of (punctuator_terminal p l later) ≡ punctuator_terminal p l []
unfolding Table.plain_of
mark_plain punctuator.Comma l later = by (before is_ellipsis later)
  where
    by : (b : Bool) → plain_of (if b then terminal.CommaRest else terminal.Comma) ≡ terminal.Comma
    by true = refl
    by false = refl
mark_plain punctuator.Arrow true later = refl
mark_plain punctuator.Arrow false later = refl
mark_plain punctuator.Increment true later = refl
mark_plain punctuator.Increment false later = refl
mark_plain punctuator.Decrement true later = refl
mark_plain punctuator.Decrement false later = refl
mark_plain _ l later = refl

string_plain : (b : Bool) → plain_of (if b then terminal.ProtoString else terminal.String) ≡ terminal.String
unfolding Table.plain_of
string_plain true = refl
string_plain false = refl

template_plain : (part : TemplatePart) → plain_of (template_terminal part) ≡ template_terminal part
unfolding Table.plain_of
template_plain template.Whole = refl
template_plain template.Head = refl
template_plain template.Middle = refl
template_plain template.Tail = refl

number_plain : plain_of terminal.Number ≡ terminal.Number
unfolding Table.plain_of
number_plain = refl

kind_plain : (source w : List ℕ) (k : TokenKind) (l : Bool) (later : List Token) → plain_of (kind_terminal source w k l later) ≡ kind_terminal source w k l []
kind_plain source w kind.Name l later = words_plain source w later (before is_colon later)
kind_plain source w (kind.Keyword k) l later = keyword_plain k later
kind_plain source w (kind.Punctuator p) l later = mark_plain p l later
kind_plain source w kind.Number l later = number_plain
kind_plain source w kind.String l later = string_plain (before is_colon later && is_proto w)
kind_plain source w (kind.Template part) l later = template_plain part

-- without regard to the next token a terminal is that before nothing
pub plain_terminal : (source : List ℕ) (t : Token) (later : List Token) → plain_of (terminal_of source t later) ≡ terminal_of source t []
unfolding terminal_of
plain_terminal source t later = kind_plain source (text_of source t) t.kind t.after_line later

-- where a semicolon may be inserted doesn't hang on the next token
pub closing_plain : (k : Terminal) → is_closing (plain_of k) ≡ is_closing k
unfolding Table.plain_of
closing_plain terminal.RightBrace = refl
closing_plain terminal.End = refl
closing_plain _ = refl
