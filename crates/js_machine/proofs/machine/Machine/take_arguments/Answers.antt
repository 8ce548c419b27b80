use Rattle.std.proofs.Common.{◌≡◌, ◌∙◌, ap, arith, reverse}
use Rattle.js_machine.specs.Views.{args_on}
use Rattle.js_machine.proofs.Called_laws.{next_state, next_taken}
use Rattle.js_machine.proofs.machine.Machine.take_arguments.Goals as goal

pub loop-i-preserved : goal.loop-i-preserved
loop-i-preserved g c =
    record {
      state = next_state c.loop-i._i c.args.self.now c.loop-i.self c.take-value.new.self c.loop-i.invariant.state c.take-value.ensures.rest;
      taken = next_taken c.loop-i._i c.given-given.result c.take-value.result c.loop-i.args.items c.push.new.self.items c.args.self.now c.loop-i.self c.loop-i.invariant.state c.loop-i.invariant.taken c.take-value.ensures.value c.loop-i-test.true
          c.given-given.ensures.there c.in_ok-push.ensures.items;
    }

pub returns-clause-list : goal.returns-clause-list
returns-clause-list g c =
    let all : c.loop-i._i ≡ c.given-given.result = omega (arith, c.loop-i-test.false, c.loop-i.auto._i-end) in
    c.from_vec.ensures ∙ c.reverse.ensures.items ∙ ap (λ xs. reverse xs) c.loop-i.invariant.taken ∙ ap (λ n. args_on n c.args.self.now.values) all ∙ c.given-given.ensures.same
