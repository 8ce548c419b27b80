use Rattle.std.proofs.Common.{◌≡◌, true, arith}
use Rattle.js_machine.proofs.Queries.{waited_for}
use Rattle.js_machine.proofs.machine.Machine.wait_for.Goals as goal

pub returns : goal.returns
returns g c =
    let there : c.open_one.result ≡ true = grind (arith, c.if-not-open_one.false) in
    waited_for c.ask.result c.open_one.result c.args.target c.args.ask c.args.wait c.args.self.now c.open_one.new.self c.push_wait.new.self c.ask.new.self c.open_one.ensures.open there (c.open_one.ensures.deeper there) c.in_ok-push_wait.ensures c.ask.ensures
