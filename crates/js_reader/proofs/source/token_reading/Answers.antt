use Rattle.std.proofs.Common.{sym, subst}
use Rattle.js_reader.specs.Reading.{IsTree, IsInLanguage}
use Rattle.js_reader.proofs.source.token_reading.Goals as goal

pub returns-in-Err-clause-only : goal.returns-in-Err-clause-only
returns-in-Err-clause-only c parts t k =
    c.in-Err.ensures.only parts
    (subst (λ ts. IsTree c.args.source.now ts parts) (sym c.as_slice.ensures) t)
    (subst (λ ts. IsInLanguage c.args.source.now ts) (sym c.as_slice.ensures) k)
