use Rattle.std.proofs.Common.{map, length, ap, sym, ◌∙◌, subst}
use Rattle.js_code.specs.Decoded.{text_at}
use Rattle.js_code.specs.Settled.{IsSettled}
use Rattle.js_code.proofs.Founded.{extends_further}
use Rattle.js_code.proofs.Holding.{given, listing_ends, listing_goes_on}
use Rattle.js_code.proofs.leaves.labels.Goals as goal

pub returns-in_err-push-clause-extends : goal.returns-in_err-push-clause-extends
returns-in_err-push-clause-extends c = extends_further c.loop-label.invariant.extends c.push_text.ensures.extends

pub loop-label-preserved : goal.loop-label-preserved
loop-label-preserved c =
    listing_goes_on c.in_ok-at.at _ c.loop-label.label-index c.loop-label.invariant c.push_text.ensures.extends c.in_ok-at.ensures.text.holds c.loop-label-test.true c.label-item.is c.push.new.self.items c.in_ok-push.ensures.items

pub returns-clause-extends : goal.returns-clause-extends
returns-clause-extends c = extends_further c.loop-label.invariant.extends c.push_numbers.ensures.extends

pub returns-clause-labels : goal.returns-clause-labels
returns-clause-labels c =
    let here = c.loop-label.code in
    let same = c.deref.ensures.value in
    given
    (c.push_numbers.ensures.labels (subst (λ ps. IsSettled (λ d low. map (text_at d) ps) here (length here.nodes)) (sym same) c.loop-label.invariant.settled))
    (ap (map (text_at here)) same ∙ (listing_ends c.loop-label.invariant c.loop-label-test.false ∙ c.as_slice-names.ensures))

pub returns-in_err-at-clause-extends : goal.returns-in_err-at-clause-extends
returns-in_err-at-clause-extends c = extends_further c.loop-label.invariant.extends c.push_text.ensures.extends
