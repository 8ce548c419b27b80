-- No token is the end of a source to the grammar.
use Rattle.std.proofs.Common.{◌≡◌, ℕ, ◌+◌, Bool, true, false, if◌then◌else◌, List, [], ◌∷◌, ◌++◌, refl}
use Rattle.js_grammar.specs.declared.symbols.Terminal.{Terminal}
use Rattle.js_grammar.specs.declared.symbols.Terminal.TheVariants as terminal
use Rattle.js_grammar.specs.Expressions.{is_end, NoEnd}
use Rattle.js_lexer.specs.declared.keywords.Keyword.{Keyword}
use Rattle.js_lexer.specs.declared.keywords.Keyword.TheVariants as keyword
use Rattle.js_lexer.specs.declared.punctuators.Punctuator.{Punctuator}
use Rattle.js_lexer.specs.declared.punctuators.Punctuator.TheVariants as punctuator
use Rattle.js_lexer.specs.declared.token.Token.{Token}
use Rattle.js_lexer.specs.declared.token.TokenKind.{TokenKind}
use Rattle.js_lexer.specs.declared.token.TokenKind.TheVariants as kind
use Rattle.js_lexer.specs.declared.token.TemplatePart.{TemplatePart}
use Rattle.js_lexer.specs.declared.token.TemplatePart.TheVariants as template
use Rattle.js_reader.specs.Reading.{ahead}
use Rattle.js_reader.specs.Terminals.{is_dot, is_key, is_ellipsis, before, text_of, label_terminal, name_terminal, keyword_terminal, punctuator_terminal, template_terminal, kind_terminal, terminal_of}

if_none : (b : Bool) (x y : Terminal) → is_end x ≡ false → is_end y ≡ false → is_end (if b then x else y) ≡ false
if_none true x y e f = e
if_none false x y e f = f

names_none : (is_end terminal.Of ≡ false) × (is_end terminal.Target ≡ false) × (is_end terminal.Get ≡ false) × (is_end terminal.Set ≡ false) × (is_end terminal.AsyncOf ≡ false) × (is_end terminal.Name ≡ false)
unfolding is_end
names_none = (refl, refl, refl, refl, refl, refl)

labels_none : (is_end terminal.OfColon ≡ false) × (is_end terminal.TargetColon ≡ false) × (is_end terminal.ProtoColon ≡ false) × (is_end terminal.NameColon ≡ false)
unfolding is_end
labels_none = (refl, refl, refl, refl)

name_none : (source w : List ℕ) (later : List Token) → is_end (name_terminal source w later) ≡ false
name_none source w later = if_none _ _ _ names_none.0 (if_none _ _ _ names_none.1 (if_none _ _ _ names_none.2 (if_none _ _ _ names_none.3 (if_none _ _ _ names_none.4 names_none.5))))

label_none : (w : List ℕ) → is_end (label_terminal w) ≡ false
label_none w = if_none _ _ _ labels_none.0 (if_none _ _ _ labels_none.1 (if_none _ _ _ labels_none.2 labels_none.3))

news_none : (is_end terminal.NewDot ≡ false) × (is_end terminal.New ≡ false) × (is_end terminal.StaticKey ≡ false) × (is_end terminal.Static ≡ false) × (is_end terminal.ProtoString ≡ false) × (is_end terminal.String ≡ false) × (is_end terminal.Number ≡ false) × (is_end terminal.CommaRest ≡ false) × (is_end terminal.Comma ≡ false)
unfolding is_end
news_none = (refl, refl, refl, refl, refl, refl, refl, refl, refl)

keyword_none : (k : Keyword) (later : List Token) → is_end (keyword_terminal k later) ≡ false
unfolding is_end
keyword_none keyword.New later = if_none (before is_dot later) terminal.NewDot terminal.New news_none.0 news_none.1
keyword_none keyword.Static later = if_none (before is_key later) terminal.StaticKey terminal.Static news_none.2 news_none.3
keyword_none _ later = refl

marks_none : (is_end terminal.ArrowAfterLine ≡ false) × (is_end terminal.Arrow ≡ false) × (is_end terminal.UpdateOperatorAfterLine ≡ false) × (is_end terminal.UpdateOperator ≡ false)
unfolding is_end
marks_none = (refl, refl, refl, refl)

mark_none : (p : Punctuator) (l : Bool) (later : List Token) → is_end (punctuator_terminal p l later) ≡ false
unfolding is_end
mark_none punctuator.Comma l later = if_none (before is_ellipsis later) terminal.CommaRest terminal.Comma news_none.7 news_none.8
mark_none punctuator.Arrow l later = if_none l terminal.ArrowAfterLine terminal.Arrow marks_none.0 marks_none.1
mark_none punctuator.Increment l later = if_none l terminal.UpdateOperatorAfterLine terminal.UpdateOperator marks_none.2 marks_none.3
mark_none punctuator.Decrement l later = if_none l terminal.UpdateOperatorAfterLine terminal.UpdateOperator marks_none.2 marks_none.3
mark_none _ l later = refl

template_none : (p : TemplatePart) → is_end (template_terminal p) ≡ false
unfolding is_end
template_none template.Whole = refl
template_none template.Head = refl
template_none template.Middle = refl
template_none template.Tail = refl

kind_none : (source w : List ℕ) (k : TokenKind) (l : Bool) (later : List Token) → is_end (kind_terminal source w k l later) ≡ false
kind_none source w kind.Name l later = if_none _ _ _ (label_none w) (name_none source w later)
kind_none source w (kind.Keyword k) l later = keyword_none k later
kind_none source w (kind.Punctuator p) l later = mark_none p l later
kind_none source w kind.Number l later = news_none.6
kind_none source w kind.String l later = if_none _ _ _ news_none.4 news_none.5
kind_none source w (kind.Template part) l later = template_none part

terminal_none : (source : List ℕ) (t : Token) (later : List Token) → is_end (terminal_of source t later) ≡ false
unfolding terminal_of
terminal_none source t later = kind_none source (text_of source t) t.kind t.after_line later

pub no_end : (source : List ℕ) (at : ℕ) (b r : List Token) → NoEnd (ahead source at b r)
no_end source at [] r = tt
no_end source at (t ∷ b) r = (terminal_none source t (b ++ r), no_end source (at + 1) b r)
