use Rattle.std.proofs.Common.{◌≡◌, sym, subst, ◌∙◌}
use Rattle.lava_base.specs.declared.place.Place.{Place}
use Rattle.js_reader.proofs.Sources_laws.{err_only, err_refused, ok_only, ok_reading, ok_refused}
use Rattle.js_reader.proofs.source.source_reading.Goals as goal

pub returns-in-Ok-clause-tree : goal.returns-in-Ok-clause-tree
returns-in-Ok-clause-tree c =
    ok_reading c.args.source.now c.in-Ok.tokens c.token_reading.result c.in-Ok.ensures.tokens
    c.token_reading.ensures.kept c.token_reading.ensures.tree c.token_reading.ensures.within

pub returns-in-Ok-clause-only : goal.returns-in-Ok-clause-only
returns-in-Ok-clause-only c =
    ok_only c.args.source.now c.in-Ok.tokens c.token_reading.result
    (λ us k. c.in-Ok.ensures.only us k)
    c.token_reading.ensures.only

pub returns-in-Ok-clause-refused : goal.returns-in-Ok-clause-refused
returns-in-Ok-clause-refused c =
    ok_refused c.args.source.now c.in-Ok.tokens c.token_reading.result c.end_of.result (c.end_of.ensures c.in-Ok.ensures.tokens.0)
    (λ us k. c.in-Ok.ensures.only us k)
    (λ p w u. c.in-Ok.ensures.refused p w u)
    c.token_reading.ensures.refused

pub returns-in-Err-clause-only : goal.returns-in-Err-clause-only
returns-in-Err-clause-only c = err_only c.args.source.now c.in-Err.fault (λ ts k. c.in-Err.ensures.only ts k)

pub returns-in-Err-clause-refused : goal.returns-in-Err-clause-refused
returns-in-Err-clause-refused c =
    err_refused c.args.source.now c.in-Err.fault (λ ts k. c.in-Err.ensures.only ts k) (λ p w u. c.in-Err.ensures.refused p w u)
