-- `var`, `let` and `const`.
use Rattle.std.specs.Prelude.{ℕ, List}
use Rattle.js_lexer.specs.declared.keywords.Keyword.TheVariants as keyword
use Rattle.js_lexer.specs.declared.token.TokenKind.{TokenKind}
use Rattle.js_lexer.specs.declared.token.TokenKind.TheVariants as token
use Rattle.js_tree.specs.declared.tree.Declaration.{Declaration, roll-Declaration}
use Rattle.js_tree.specs.declared.tree.DeclarationKind.{DeclarationKind}
use Rattle.js_tree.specs.declared.tree.DeclarationKind.TheVariants as kind
use Rattle.js_tree.specs.declared.tree.Stmt.TheVariants as stmt
use Rattle.js_phrase.specs.declared.phrase.Phrase.{Phrase}
use Rattle.js_phrase.specs.declared.phrase.Phrase.TheVariants as phrase
use Rattle.js_phrase.specs.Lists.{elements_of}
use Rattle.js_expr.specs.Parts.{behind, token_at}

-- own: what is neither `var` nor `const` is `let`
-- ECMA-262 LetOrConst
abbrev pub declaration_kind : TokenKind → DeclarationKind
declaration_kind (token.Keyword keyword.Var) = kind.Var
declaration_kind (token.Keyword keyword.Const) = kind.Const
declaration_kind _ = kind.Let

-- ECMA-262 VariableDeclarationList
-- ECMA-262 BindingList
abbrev pub declaration : List Phrase → Declaration
declaration l = roll-Declaration (record {
  place = (token_at 0 l).start;
  kind = declaration_kind (token_at 0 l).kind;
  declarators = elements_of (behind 1 l);
})

-- ECMA-262 VariableStatement
-- ECMA-262 LexicalDeclaration
abbrev pub declaration_statement : List Phrase → Phrase
declaration_statement l = phrase.Statement (stmt.Declare (declaration l))

-- the same in the head of a `for`
-- ECMA-262 ForDeclaration
abbrev pub for_declaration : List Phrase → Phrase
for_declaration l = phrase.Declaration (declaration l)
