use Rattle.std.proofs.Common.{◌≡◌, ◌∙◌, ap, drop, length}
use Rattle.std.proofs.lemmas.List.{drop-drop}
use Rattle.js_lexer.specs.Grammar.{hex_from}
use Rattle.js_literals.specs.Escapes.{code_point, hex_digits, one_of}
use Rattle.js_literals.proofs.Escapes_laws.{digits_all}
use Rattle.js_literals.proofs.escapes.code_point_escape.Goals as goal

pub returns-clause-code : goal.returns-clause-code
returns-clause-code c =
    c.digits_escape-code.ensures.code ∙ ap (λ l. code_point (hex_from 0 l)) (digits_all c.most-most.result c.args.rest.now c.most-most.ensures)

pub returns-clause-rest : goal.returns-clause-rest
returns-clause-rest c =
    let digits = hex_digits (length c.args.rest.now) c.args.rest.now in
    let behind : c.digits_escape-code.new.rest ≡ drop (length digits) c.args.rest.now =
    c.digits_escape-code.ensures.rest ∙ ap (λ l. drop (length l) c.args.rest.now) (digits_all c.most-most.result c.args.rest.now c.most-most.ensures) in
    c.pass_character.ensures ∙ ap (λ l. drop (one_of 125 l) l) behind ∙ drop-drop (one_of 125 (drop (length digits) c.args.rest.now)) (length digits) c.args.rest.now
