use Rattle.std.proofs.Common.{◌≡◌, ◌+◌, length, ℕ, Ok, Err, Bool, ap, ◌∙◌, rules, arith}
use Rattle.pkg_load.specs.Sources.{sources_of}
use Rattle.pkg_load.specs.Loading.{Loading, Follows, settled}
use Rattle.pkg_load.proofs.OnwardLemmas.{says_passed, follows_here, follows_next, follows_none, adds_nothing, adds_one, same_modules}
use Rattle.pkg_load.specs.Reasons.{Explained}
use Rattle.pkg_load.proofs.ReasonLemmas.{explained_so}
use Rattle.pkg_load.proofs.load.load_next.Goals as goal

pub loop-round-init : goal.loop-round-init
loop-round-init g c = record {
  told = search rules;
  count = search rules;
  came = λ files told meaning means. follows_here _ _;
  size = search rules;
  left = grind (arith, c.pending_count-round-end.ensures);
}

pub returns-in_default-clause-gives : goal.returns-in_default-clause-gives
returns-in_default-clause-gives g c = λ files told meaning means.
    let w = sources_of files c.args.root.now c.args.packages.now meaning in
    follows_none w c.args.loading.now c.loop-round.loading c.take_next.new.loading c.in_default.ensures.takes c.in_default.ensures.others (c.loop-round.invariant.came files told meaning means)

pub returns-in_err-settle-clause-gives : goal.returns-in_err-settle-clause-gives
returns-in_err-settle-clause-gives g c = λ files told meaning means.
    let w = sources_of files c.args.root.now c.args.packages.now meaning in
    let is : c.from_residual.result ≡ Err c.in_err-settle.field-0.0 = search rules in
    let reads = g.R.ModuleReader.Reads c.args.reader.now in
    says_passed Bool (Explained reads w (λ r. settled w c.take_next.new.loading c.in-Some.requirement ≡ r)) (Explained reads w (Follows w c.args.loading.now)) c.settle.new.loading c.settle.new.loading c.in_err-settle.field-0.0 c.from_residual.result
    (explained_so reads w (λ r. settled w c.take_next.new.loading c.in-Some.requirement ≡ r) (Follows w c.args.loading.now) (λ r e. follows_next w c.args.loading.now c.loop-round.loading c.take_next.new.loading c.in-Some.requirement r c.in-Some.ensures.takes c.in-Some.ensures.others (c.loop-round.invariant.came files told meaning means) e))
    is (c.in_err-settle.ensures.gives files (c.loop-round.invariant.told ∙ told) meaning means)

pub returns-then-branch-clause-gives : goal.returns-then-branch-clause-gives
returns-then-branch-clause-gives g c = λ files told meaning means.
    let w = sources_of files c.args.root.now c.args.packages.now meaning in
    follows_next w c.args.loading.now c.loop-round.loading c.take_next.new.loading c.in-Some.requirement (Ok c.settle.new.loading) c.in-Some.ensures.takes c.in-Some.ensures.others (c.loop-round.invariant.came files told meaning means) (c.in_ok-settle.ensures.gives files (c.loop-round.invariant.told ∙ told) meaning means)

pub returns-then-branch-clause-reaches : goal.returns-then-branch-clause-reaches
returns-then-branch-clause-reaches g c =
    let one = adds_one c.take_next.new.loading c.settle.new.loading c.in_ok-settle.field-0 c.if-branch.true c.in_ok-settle.ensures.adds in
    let same = same_modules c.loop-round.loading c.take_next.new.loading c.in-Some.ensures.others ∙ c.loop-round.invariant.size in
    (one.0 ∙ ap (λ (n : ℕ). n + 1) same, omega (arith, one.1, same))

pub loop-round-preserved : goal.loop-round-preserved
loop-round-preserved g c =
    let none = adds_nothing c.take_next.new.loading c.settle.new.loading c.in_ok-settle.field-0 c.if-branch.false c.in_ok-settle.ensures.adds in
    record {
      told = c.in_ok-settle.ensures.tells ∙ c.loop-round.invariant.told;
      count = c.in_ok-settle.ensures.counts ∙ c.loop-round.invariant.count;
      came = λ files told meaning means.
          let w = sources_of files c.args.root.now c.args.packages.now meaning in
          follows_next w c.args.loading.now c.loop-round.loading c.take_next.new.loading c.in-Some.requirement (Ok c.settle.new.loading) c.in-Some.ensures.takes c.in-Some.ensures.others (c.loop-round.invariant.came files told meaning means) (c.in_ok-settle.ensures.gives files (c.loop-round.invariant.told ∙ told) meaning means);
      size = ap (λ (s : Loading _). length s.modules) none ∙ same_modules c.loop-round.loading c.take_next.new.loading c.in-Some.ensures.others ∙ c.loop-round.invariant.size;
      left =
          let fewer = ap length c.in-Some.ensures.takes in
          let kept = ap (λ (s : Loading _). length s.pending) none in
          omega (arith, fewer, kept, c.loop-round.invariant.left);
    }
