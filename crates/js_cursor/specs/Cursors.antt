-- How a cursor stands, and what a reading of an expression makes of it.
use Rattle.std.specs.Prelude.{◌≡◌, ℕ, List, Option, Some, None, ◌⊎◌, drop}
use Rattle.lava_base.specs.declared.place.Place.{Place}
use Rattle.js_fault.specs.declared.fault.SyntaxFault.{SyntaxFault}
use Rattle.js_fault.specs.declared.fault.SyntaxFault.TheVariants as fault
use Rattle.js_fault.specs.declared.fault.SyntaxWhat.{SyntaxWhat}
use Rattle.js_fault.specs.declared.fault.SyntaxWhat.TheVariants as what
use Rattle.js_grammar.specs.Grammar.{Tree}
use Rattle.js_lexer.specs.declared.token.Token.{Token}
use Rattle.js_lexer.specs.Sources.{end_place}
use Rattle.js_parser.specs.Trees.{expression_in}
use Rattle.js_reader.specs.declared.halt.Halt.{Halt}
use Rattle.js_reader.specs.declared.halt.HaltCause.{HaltCause}
use Rattle.js_reader.specs.declared.halt.HaltCause.TheVariants as cause
use Rattle.js_reader.specs.Halts.{form_name}
use Rattle.js_reader.specs.Runs.{IsExpressionAt, IsRunStop}
use Rattle.js_tree.specs.declared.tree.Expr.{Expr}

pub record Standing : Type 0 where
  pub source : List ℕ
  pub left : List Token
  pub end : Place
  pub refusal : Option Halt

abbrev pub standing : List ℕ → List Token → Place → Option Halt → Standing
standing source left end refusal = record { source = source; left = left; end = end; refusal = refusal }

-- at the first token of a source
abbrev pub standing_at : List ℕ → List Token → Standing
standing_at source tokens = standing source tokens (end_place source) None

-- behind so many tokens
abbrev pub passed : Standing → ℕ → Standing
passed c n = standing c.source (drop n c.left) c.end c.refusal

-- with a refusal, which is repeated
abbrev pub stopped : Standing → Halt → Standing
stopped c h = standing c.source c.left c.end (Some h)

-- an expression was read: the longest run of the tokens that were left is it, and those behind it are left
-- ECMA-262 Expression
abbrev pub IsReadFrom : Standing → Standing → Expr → Type 0
IsReadFrom old new e =
    (before : List Token) × (rest : List Token) × (x : Tree) × IsExpressionAt old.source old.left before rest x
    × (e ≡ expression_in old.source old.left x) × (new ≡ standing old.source rest old.end old.refusal)

-- the refusal that a stop is
abbrev pub refusal_for : HaltCause → SyntaxWhat
refusal_for cause.Unexpected = what.Unexpected
refusal_for cause.TooDeep = what.TooDeep
refusal_for (cause.LeftOut x) = what.Unsupported (form_name x)

abbrev pub refusal_of : Halt → SyntaxFault
refusal_of h = fault.At h.place (refusal_for h.cause)

-- a stop is told and kept; for want of memory the cursor stays as it was
abbrev pub IsKept : Standing → Standing → Halt → SyntaxFault → Type 0
IsKept old new h f = ((f ≡ fault.OutOfMemory) × (new ≡ old)) ⊎ ((f ≡ refusal_of h) × (new ≡ stopped old h))

-- the reading stops, and the cursor keeps where and why; for want of memory it stays as it was
-- own: which token is told, and where
abbrev pub IsRefusedFrom : Standing → Standing → SyntaxFault → Type 0
IsRefusedFrom old new f =
    ((f ≡ fault.OutOfMemory) × (new ≡ old))
    ⊎ ((h : Halt) × IsRunStop old.source old.left old.end h.place h.cause × (f ≡ refusal_of h) × (new ≡ stopped old h))

-- a cursor with a refusal answers it, or has no memory for its text
abbrev pub IsRepeated : Halt → SyntaxFault → Type 0
IsRepeated h f = (f ≡ refusal_of h) ⊎ (f ≡ fault.OutOfMemory)
