use Rattle.std.proofs.Common.{◌≡◌, ◌+◌, suc, arith}
use Rattle.js_machine_run.proofs.Argued.{one_more}
use Rattle.js_machine_run.proofs.arguments.argument_comes.Goals as goal

pub returns : goal.returns
returns g c =
    let more : c.args.done + 1 ≡ suc c.args.done = omega arith in
    one_more c.args.purpose c.args.done c.args.machine.now c.next_argument.result c.args.start c.args.left c.args.value (c.args.done + 1) c.push.new.self c.next_argument.new.machine more c.in_ok-push.ensures c.next_argument.ensures
