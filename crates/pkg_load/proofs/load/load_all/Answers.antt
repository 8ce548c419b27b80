use Rattle.std.proofs.Common.{◌≡◌, Ok, Err, Bool, ◌∙◌, rules, arith}
use Rattle.pkg_load.specs.Sources.{sources_of}
use Rattle.pkg_load.specs.Loading.{Follows}
use Rattle.pkg_load.proofs.OnwardLemmas.{says_passed, follows_here, follows_on, reaches_one}
use Rattle.pkg_load.specs.Reasons.{Explained}
use Rattle.pkg_load.proofs.ReasonLemmas.{explained_so}
use Rattle.pkg_load.proofs.load.load_all.Goals as goal

pub loop-round-init : goal.loop-round-init
loop-round-init g c = record {
  told = search rules;
  count = search rules;
  came = λ files told meaning means. follows_here _ _;
  above = omega arith;
  within = λ lt. omega arith;
}

pub returns-in_err-load_next-clause-gives : goal.returns-in_err-load_next-clause-gives
returns-in_err-load_next-clause-gives g c = λ files told meaning means.
    let w = sources_of files c.args.root.now c.args.packages.now meaning in
    let is : c.from_residual.result ≡ Err c.in_err-load_next.field-0.0 = search rules in
    let reads = g.R.ModuleReader.Reads c.args.reader.now in
    says_passed Bool (Explained reads w (Follows w c.loop-round.loading)) (Explained reads w (Follows w c.args.loading.now)) c.load_next.new.loading c.load_next.new.loading c.in_err-load_next.field-0.0 c.from_residual.result
    (explained_so reads w (Follows w c.loop-round.loading) (Follows w c.args.loading.now) (λ r. follows_on w c.args.loading.now c.loop-round.loading r (c.loop-round.invariant.came files told meaning means)))
    is (c.in_err-load_next.ensures.gives files (c.loop-round.invariant.told ∙ told) meaning means)

pub returns-then-not-branch-clause-gives : goal.returns-then-not-branch-clause-gives
returns-then-not-branch-clause-gives g c = λ files told meaning means.
    let w = sources_of files c.args.root.now c.args.packages.now meaning in
    follows_on w c.args.loading.now c.loop-round.loading (Ok c.load_next.new.loading) (c.loop-round.invariant.came files told meaning means) (c.in_ok-load_next.ensures.gives files (c.loop-round.invariant.told ∙ told) meaning means)

pub loop-round-preserved : goal.loop-round-preserved
loop-round-preserved g c =
    let one = reaches_one c.loop-round.loading c.load_next.new.loading c.in_ok-load_next.field-0 c.if-not-branch.false c.in_ok-load_next.ensures.reaches in
    record {
      told = c.in_ok-load_next.ensures.tells ∙ c.loop-round.invariant.told;
      count = c.in_ok-load_next.ensures.counts ∙ c.loop-round.invariant.count;
      came = λ files told meaning means.
          let w = sources_of files c.args.root.now c.args.packages.now meaning in
          follows_on w c.args.loading.now c.loop-round.loading (Ok c.load_next.new.loading) (c.loop-round.invariant.came files told meaning means) (c.in_ok-load_next.ensures.gives files (c.loop-round.invariant.told ∙ told) meaning means);
      above = omega (arith, one.0, c.loop-round.invariant.above);
      within = λ lt. omega (arith, one.0, one.1);
    }

pub returns-clause-done : goal.returns-clause-done
returns-clause-done g c =
    let none : ⊥ = omega (arith, c.loop-round.invariant.above, c.loop-round.invariant.within) in absurd none
