use Rattle.std.proofs.Common.{◌≡◌, ◌-◌, ◌+◌, suc, Ok, Err, sym, ap, ◌∙◌, arith, rules}
use Rattle.pkg_graph.specs.Worlds.{world_of}
use Rattle.pkg_graph.specs.Reading.{Reading}
use Rattle.pkg_graph.specs.declared.limits.TheConstants.{PACKAGE_LIMIT}
use Rattle.pkg_graph.proofs.OnLemmas.{read_on_ends, read_on_zero, read_on_goes, read_on_fails}
use Rattle.pkg_graph.proofs.reading.read_on.Goals as goal

pub returns-in_default-clause-gives : goal.returns-in_default-clause-gives
returns-in_default-clause-gives g c = λ files told.
    let none = c.in_default.ensures.takes ∙ c.in_default.ensures.empty in
    let now = c.loop-round.reading in
    let same : c.take_next.new.reading ≡ now = c.in_default.ensures.others ∙ (λ i. record now { waiting = sym c.in_default.ensures.takes i }) in
    c.loop-round.invariant.rest files told
    ∙ read_on_ends (world_of files c.args.root.now) (PACKAGE_LIMIT - c.loop-round.round) now none
    ∙ ap (λ (r : Reading). Ok (r, tt)) (sym same)

pub returns-in_err-links-clause-gives : goal.returns-in_err-links-clause-gives
returns-in_err-links-clause-gives g c = λ files told.
    let k = PACKAGE_LIMIT - (c.loop-round.round + 1) in
    let count : PACKAGE_LIMIT - c.loop-round.round ≡ suc k = omega arith in
    let is : c.from_residual.result ≡ Err c.in_err-links.field-0.0 = search rules in
    read_on_fails (world_of files c.args.root.now) (PACKAGE_LIMIT - c.loop-round.round) k c.loop-round.reading c.take_next.new.reading c.links_of.new.reading c.in-Some.next c.take_next.new.reading.waiting c.linked_count-at.result c.in_err-links.field-0.0 _ c.from_residual.result count c.in-Some.ensures.takes c.in-Some.ensures.others c.linked_count-at.ensures (c.loop-round.invariant.rest files told) is (c.in_err-links.ensures.gives files (c.loop-round.invariant.told ∙ told))

pub loop-round-preserved : goal.loop-round-preserved
loop-round-preserved g c = record {
  told = c.in_ok-links.ensures.tells ∙ c.loop-round.invariant.told;
  count = c.in_ok-links.ensures.counts ∙ c.loop-round.invariant.count;
  rest = λ files told.
      let k = PACKAGE_LIMIT - (c.loop-round.round + 1) in
      let count : PACKAGE_LIMIT - c.loop-round.round ≡ suc k = omega arith in
      read_on_goes (world_of files c.args.root.now) (PACKAGE_LIMIT - c.loop-round.round) k c.loop-round.reading c.take_next.new.reading c.links_of.new.reading c.add_links.new.reading c.in-Some.next c.take_next.new.reading.waiting c.linked_count-at.result c.in_ok-links.links _ count c.in-Some.ensures.takes c.in-Some.ensures.others c.linked_count-at.ensures (c.loop-round.invariant.rest files told) (c.in_ok-links.ensures.gives files (c.loop-round.invariant.told ∙ told)) c.in_ok-add_links.ensures;
}

pub returns-clause-gives : goal.returns-clause-gives
returns-clause-gives g c = λ files told.
    c.loop-round.invariant.rest files told
    ∙ read_on_zero (world_of files c.args.root.now) (PACKAGE_LIMIT - c.loop-round.round) c.loop-round.reading (omega arith)
