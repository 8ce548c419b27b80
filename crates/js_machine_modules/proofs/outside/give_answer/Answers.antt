use Rattle.js_machine_modules.proofs.Outside_laws.{failure_told, number_told, told_so}
use Rattle.js_machine.specs.declared.outside.HostAnswer.TheVariants as host_answer
use Rattle.js_machine_modules.proofs.outside.give_answer.Goals as goal

pub returns-in-Text : goal.returns-in-Text
returns-in-Text g c = told_so c.give.result c.args.answer (host_answer.Text c.in-Text.text) c.args.machine.now c.give.new.self c.in-Text.is c.give.ensures.leads

pub returns-in-Truth : goal.returns-in-Truth
returns-in-Truth g c = told_so c.give-in-Truth.result c.args.answer (host_answer.Truth c.in-Truth.truth) c.args.machine.now c.give-in-Truth.new.self c.in-Truth.is c.give-in-Truth.ensures.leads

pub returns-in-Null : goal.returns-in-Null
returns-in-Null g c = told_so c.give-in-Null.result c.args.answer host_answer.Null c.args.machine.now c.give-in-Null.new.self c.in-Null.is c.give-in-Null.ensures.leads

pub returns-in-Undefined : goal.returns-in-Undefined
returns-in-Undefined g c = told_so c.give-in-Undefined.result c.args.answer host_answer.Undefined c.args.machine.now c.give-in-Undefined.new.self c.in-Undefined.is c.give-in-Undefined.ensures.leads

pub returns-in-Gone : goal.returns-in-Gone
returns-in-Gone g c = told_so c.end_run.result c.args.answer host_answer.Gone c.args.machine.now c.end_run.new.self c.in-Gone.is c.end_run.ensures

pub returns-in_ok-value-in-Number : goal.returns-in_ok-value-in-Number
returns-in_ok-value-in-Number g c =
    number_told c.give-in-Number.result c.in_ok-value-in-Number.value c.in-Number.number c.args.answer c.args.machine.now c.give-in-Number.new.self c.in_ok-value-in-Number.ensures c.in-Number.is c.give-in-Number.ensures.leads

pub returns-in_ok-units-in-Fails : goal.returns-in_ok-units-in-Fails
returns-in_ok-units-in-Fails g c =
    failure_told c.throw_plain.result c.in-Fails.text c.in_ok-units-in-Fails.units c.as_slice.result.now c.args.answer c.args.machine.now c.throw_plain.new.machine c.in_ok-units-in-Fails.ensures.units c.as_slice.ensures c.in-Fails.is c.throw_plain.ensures
