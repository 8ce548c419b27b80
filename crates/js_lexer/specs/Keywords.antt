-- Keywords.
use Rattle.std.specs.Prelude.{ℕ, ◌==◌, Bool, if◌then◌else◌, List, [], ◌∷◌, length, codes, Option}
use Rattle.std.specs.List.{find}
use Rattle.std.specs.Str.{bytes_eq}
use Rattle.js_lexer.specs.declared.keywords.Keyword.{Keyword}
use Rattle.js_lexer.specs.declared.keywords.Keyword.TheVariants.{Break, Case, Catch, Class, Const, Continue, Debugger, Default, Delete, Do, Else, Enum, Export, Extends, False, Finally, For, Function, If, Import, In, Instanceof, New, Null, Return, Super, Switch, This, Throw, True, Try, Typeof, Var, Void, While, With, Yield, Let, Static, Implements, Interface, Package, Private, Protected, Public}

-- the word
-- ECMA-262 Keywords and Reserved Words, ReservedWord
abbrev pub keyword_text : Keyword → List ℕ
keyword_text Break = codes "break"
keyword_text Case = codes "case"
keyword_text Catch = codes "catch"
keyword_text Class = codes "class"
keyword_text Const = codes "const"
keyword_text Continue = codes "continue"
keyword_text Debugger = codes "debugger"
keyword_text Default = codes "default"
keyword_text Delete = codes "delete"
keyword_text Do = codes "do"
keyword_text Else = codes "else"
keyword_text Enum = codes "enum"
keyword_text Export = codes "export"
keyword_text Extends = codes "extends"
keyword_text False = codes "false"
keyword_text Finally = codes "finally"
keyword_text For = codes "for"
keyword_text Function = codes "function"
keyword_text If = codes "if"
keyword_text Import = codes "import"
keyword_text In = codes "in"
keyword_text Instanceof = codes "instanceof"
keyword_text New = codes "new"
keyword_text Null = codes "null"
keyword_text Return = codes "return"
keyword_text Super = codes "super"
keyword_text Switch = codes "switch"
keyword_text This = codes "this"
keyword_text Throw = codes "throw"
keyword_text True = codes "true"
keyword_text Try = codes "try"
keyword_text Typeof = codes "typeof"
keyword_text Var = codes "var"
keyword_text Void = codes "void"
keyword_text While = codes "while"
keyword_text With = codes "with"
keyword_text Yield = codes "yield"
keyword_text Let = codes "let"
keyword_text Static = codes "static"
keyword_text Implements = codes "implements"
keyword_text Interface = codes "interface"
keyword_text Package = codes "package"
keyword_text Private = codes "private"
keyword_text Protected = codes "protected"
keyword_text Public = codes "public"

-- A keyword is looked for among those of its length

abbrev pub is_text_of : List ℕ → Keyword → Bool
is_text_of word k = bytes_eq (keyword_text k) word

abbrev pub of_length : ℕ → List Keyword
of_length n =
    if n == 2 then Do ∷ If ∷ In ∷ []
    else if n == 3 then For ∷ New ∷ Try ∷ Var ∷ Let ∷ []
    else if n == 4 then Case ∷ Else ∷ Enum ∷ Null ∷ This ∷ True ∷ Void ∷ With ∷ []
    else if n == 5 then Break ∷ Catch ∷ Class ∷ Const ∷ False ∷ Super ∷ Throw ∷ While ∷ Yield ∷ []
    else if n == 6 then Delete ∷ Export ∷ Import ∷ Return ∷ Switch ∷ Typeof ∷ Static ∷ Public ∷ []
    else if n == 7 then Default ∷ Extends ∷ Finally ∷ Package ∷ Private ∷ []
    else if n == 8 then Continue ∷ Debugger ∷ Function ∷ []
    else if n == 9 then Interface ∷ Protected ∷ []
    else if n == 10 then Instanceof ∷ Implements ∷ []
    else []

abbrev pub keyword_named : List ℕ → Option Keyword
keyword_named word = find (is_text_of word) (of_length (length word))
