use Rattle.js_desc.specs.declared.decision.Decision.TheVariants as decision
use Rattle.js_machine_natives.proofs.Proxied_laws.{follows_kind}
use Rattle.js_machine_natives.proofs.proxies.follow_proxy_once.Goals as goal

pub returns-in-Done : goal.returns-in-Done
returns-in-Done g c = follows_kind c.reply.result c.args.decision (decision.Done c.in-Done.reply) c.args.machine.now c.reply.new.self c.in-Done.is c.reply.ensures

pub returns-in-Fault : goal.returns-in-Fault
returns-in-Fault g c = follows_kind c.fault.result c.args.decision (decision.Fault c.in-Fault.fault) c.args.machine.now c.fault.new.self c.in-Fault.is c.fault.ensures

pub returns-in-Ask : goal.returns-in-Ask
returns-in-Ask g c = follows_kind c.follow_proxy_ask.result c.args.decision (decision.Ask c.in-Ask.target c.in-Ask.ask c.in-Ask.next) c.args.machine.now c.follow_proxy_ask.new.machine c.in-Ask.is c.follow_proxy_ask.ensures

pub returns-in-Number : goal.returns-in-Number
returns-in-Number g c = follows_kind c.fault-in-Number.result c.args.decision (decision.Number c.in-Number.value c.in-Number.next) c.args.machine.now c.fault-in-Number.new.self c.in-Number.is c.fault-in-Number.ensures

pub returns-in-Run : goal.returns-in-Run
returns-in-Run g c = follows_kind c.fault-in-Run.result c.args.decision _ c.args.machine.now c.fault-in-Run.new.self c.in-Run.is c.fault-in-Run.ensures

pub returns : goal.returns
returns g c = follows_kind c.end_as.result c.args.decision (decision.End c.in-End.kind) c.args.machine.now c.end_as.new.self c.in-End.is c.end_as.ensures
