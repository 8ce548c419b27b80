use Rattle.std.proofs.Common.{◌≡◌, sym, List, ℕ, subst}
use Rattle.lava_base.specs.declared.place.Place.{Place}
use Rattle.js_grammar.specs.Grammar.{Tree}
use Rattle.js_lexer.specs.declared.token.Token.{Token}
use Rattle.js_reader.specs.declared.halt.Halt.{Halt}
use Rattle.js_reader.specs.Runs.{IsRunStop, IsExpressionAt}
use Rattle.js_cursor.proofs.Refusals.{stop_told, never_read, refused_from}
use Rattle.js_cursor.proofs.expression.expression.Goals as goal

moved : (s t : List ℕ) (l m : List Token) (e f : Place) (h : Halt) → s ≡ t → l ≡ m → e ≡ f → IsRunStop s l e h.place h.cause → IsRunStop t m f h.place h.cause
moved s t l m e f h a b c k =
    let P : List ℕ → Type 0 = λ x. IsRunStop x l e h.place h.cause in
    let Q : List Token → Type 0 = λ x. IsRunStop t x e h.place h.cause in
    let R : Place → Type 0 = λ x. IsRunStop t m x h.place h.cause in
    subst R c (subst Q b (subst P a k))

expression_moved : (s t : List ℕ) (l m before rest : List Token) (x : Tree) → s ≡ t → l ≡ m → IsExpressionAt t m before rest x → IsExpressionAt s l before rest x
expression_moved s t l m before rest x a b k =
    let P : List ℕ → Type 0 = λ y. IsExpressionAt y m before rest x in
    let Q : List Token → Type 0 = λ y. IsExpressionAt s y before rest x in
    subst Q (sym b) (subst P (sym a) k)

pub returns-in-Ok-Stopped-clause-cause : goal.returns-in-Ok-Stopped-clause-cause
returns-in-Ok-Stopped-clause-cause c = λ e.
    let k = stop_told c.source.result.now c.left.result.now c.end.result c.in-Ok-Stopped.field-0 c.in-Ok-Stopped.halt c.in-Ok-Stopped.field-0-is c.in-Ok-Stopped.ensures.told in
    let m = moved c.source.result.now c.args.cursor.now.source c.left.result.now c.args.cursor.now.left c.end.result c.args.cursor.now.end c.in-Ok-Stopped.halt c.source.ensures c.left.ensures c.end.ensures k in
    refused_from c.args.cursor.now c.kept_refusal.new.cursor c.in-Ok-Stopped.halt c.kept_refusal.result m c.kept_refusal.ensures

pub returns-in-Ok-Stopped-clause-only : goal.returns-in-Ok-Stopped-clause-only
returns-in-Ok-Stopped-clause-only c = λ e before rest x k.
    let m = expression_moved c.source.result.now c.args.cursor.now.source c.left.result.now c.args.cursor.now.left before rest x c.source.ensures c.left.ensures k in
    absurd (never_read c.in-Ok-Stopped.field-0 c.in-Ok-Stopped.halt c.in-Ok-Stopped.field-0-is (c.in-Ok-Stopped.ensures.only before rest x m))
