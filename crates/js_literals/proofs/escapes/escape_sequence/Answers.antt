use Rattle.std.proofs.Common.{◌∙◌, ap, drop, sym}
use Rattle.js_literals.specs.Escapes.{escape_sequence}
use Rattle.js_literals.proofs.Characters_laws.{front_taken}
use Rattle.js_literals.proofs.escapes.escape_sequence.Goals as goal

pub returns-in-Some-clause-code : goal.returns-in-Some-clause-code
returns-in-Some-clause-code c =
    let e = front_taken c.args.rest.now c.bump.new.self c.in-Some.character (cc) c.bump.ensures.rest in
    c.escape_of.ensures.code ∙ ap (λ l. (escape_sequence l).code) (sym e)

pub returns-in-Some-clause-rest : goal.returns-in-Some-clause-rest
returns-in-Some-clause-rest c =
    let e = front_taken c.args.rest.now c.bump.new.self c.in-Some.character (cc) c.bump.ensures.rest in
    c.escape_of.ensures.rest ∙ ap (λ l. drop (escape_sequence l).taken l) (sym e)
