use Rattle.std.proofs.Common.{◌≡◌, ◌∙◌, ◌++◌, ap, arith, reverse}
use Rattle.js_text.specs.Naming.{naming_of}
use Rattle.js_ordinary.specs.Targets.{object_seen}
use Rattle.js_machine.specs.js_run.Functions.{items_from}
use Rattle.js_machine.specs.Views.{View}
use Rattle.js_machine_calls.proofs.Spread_out.{item_pushed}
use Rattle.js_machine_calls.proofs.listed_arguments.push_items.Goals as goal

pub loop-at-preserved : goal.loop-at-preserved
loop-at-preserved g c =
    let seen = λ (w : View). object_seen w.objects w.common c.args.target in
    item_pushed (seen c.args.machine.now) (seen c.loop-at.machine) c.loop-at.at c.in_ok-value.value c.args.machine.now c.loop-at.machine c.push.new.self c.loop-at.invariant (ap seen c.loop-at.invariant) c.in_ok-value.ensures c.in_ok-push.ensures

pub returns : goal.returns
returns g c =
    let all : c.loop-at.at ≡ c.args.count = omega (arith, c.loop-at-test.false, c.loop-at.auto.at-end) in
    let o = object_seen c.args.machine.now.objects c.args.machine.now.common c.args.target in
    c.loop-at.invariant ∙ ap (λ n. record c.args.machine.now { values = reverse (items_from (naming_of c.args.machine.now.me) o 0 n) ++ c.args.machine.now.values }) all
