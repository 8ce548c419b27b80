-- First tokens, and the order of what is open.
use Rattle.std.proofs.Common.{◌≡◌, Bool, true, false, not, List, [], ◌∷◌, ◌++◌, Option, Some, None, refl}
use Rattle.js_grammar.specs.declared.lexeme.Lexeme.{Lexeme}
use Rattle.js_grammar.specs.declared.symbols.Terminal.{Terminal}
use Rattle.js_grammar.specs.declared.symbols.Nonterminal.{Nonterminal}
use Rattle.js_grammar.specs.declared.constituents.Lookahead.{Lookahead}
use Rattle.js_grammar.specs.declared.constituents.Lookahead.TheVariants.{Any, NotBrace, NotDeclaration, SameLine}
use Rattle.js_grammar.specs.Table.{guard_of, guards, guard_at_start}
use Rattle.js_grammar.specs.Grammar.{led}
use Rattle.js_grammar.specs.Fits.{grammar, first_some}
use Rattle.js_grammar.specs.Flat.{led_by}
use Rattle.js_grammar.specs.Guarded.{is_guarded, is_any, head_of}

pub head_append : (a b : List Lexeme) → head_of (a ++ b) ≡ first_some (head_of a) (head_of b)
head_append [] b = refl
head_append (t ∷ a) b = refl

pub led_head : (c : Nonterminal) (ts : List Lexeme) → led grammar c ts ≡ led_by c (head_of ts)
led_head c [] = refl
led_head c (t ∷ ts) = refl

any_passes : (g : Lookahead) (k : Terminal) (l : Bool) → not (is_any g) ≡ false → guards g k l ≡ true
unfolding guards
any_passes Any k l h = refl
any_passes NotBrace k l h = cc
any_passes NotDeclaration k l h = cc
any_passes SameLine k l h = cc

pub unguarded : (c : Nonterminal) (k : Terminal) (l : Bool) → is_guarded c ≡ false → guard_of c k l ≡ true
unguarded c k l h = any_passes (guard_at_start c) k l h

pub led_unguarded : (c : Nonterminal) (o : Option Lexeme) → is_guarded c ≡ false → led_by c o ≡ true
led_unguarded c None h = refl
led_unguarded c (Some t) h = unguarded c t.terminal t.after_line h

pub led_free : (c : Nonterminal) (ts : List Lexeme) → is_guarded c ≡ false → led grammar c ts ≡ true
led_free c [] h = refl
led_free c (t ∷ ts) h = unguarded c t.terminal t.after_line h
