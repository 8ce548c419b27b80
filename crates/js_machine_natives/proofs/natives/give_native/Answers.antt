use Rattle.js_desc.specs.declared.reply.Reply.TheVariants as reply
use Rattle.js_machine.specs.js_run.NativeTurns.{native_gives}
use Rattle.js_machine.specs.Views.{party_of}
use Rattle.js_machine.proofs.In_cases.{in_case}
use Rattle.js_machine_natives.proofs.natives.give_native.Goals as goal

pub returns-in-Value : goal.returns-in-Value
returns-in-Value g c = in_case c.give_value_of.result c.args.reply (reply.Value c.in-Value.value) (λ y a. native_gives c.args.which y (party_of a c.args.machine.now)) c.args.machine.now c.give_value_of.new.machine c.in-Value.is c.give_value_of.ensures

pub returns-in-Proto : goal.returns-in-Proto
returns-in-Proto g c = in_case c.answer.result c.args.reply (reply.Proto c.in-Proto.proto) (λ y a. native_gives c.args.which y (party_of a c.args.machine.now)) c.args.machine.now c.answer.new.self c.in-Proto.is c.answer.ensures

pub returns-in-Flag : goal.returns-in-Flag
returns-in-Flag g c = in_case c.answer-in-Flag.result c.args.reply (reply.Flag c.in-Flag.truth) (λ y a. native_gives c.args.which y (party_of a c.args.machine.now)) c.args.machine.now c.answer-in-Flag.new.self c.in-Flag.is c.answer-in-Flag.ensures

pub returns-in-Desc : goal.returns-in-Desc
returns-in-Desc g c = in_case c.answer-in-Desc.result c.args.reply (reply.Desc c.in-Desc.property) (λ y a. native_gives c.args.which y (party_of a c.args.machine.now)) c.args.machine.now c.answer-in-Desc.new.self c.in-Desc.is c.answer-in-Desc.ensures

pub returns-in-Keys : goal.returns-in-Keys
returns-in-Keys g c = in_case c.answer-in-Keys.result c.args.reply (reply.Keys c.in-Keys.keys) (λ y a. native_gives c.args.which y (party_of a c.args.machine.now)) c.args.machine.now c.answer-in-Keys.new.self c.in-Keys.is c.answer-in-Keys.ensures

pub returns-in-Throw : goal.returns-in-Throw
returns-in-Throw g c = in_case c.end_with.result c.args.reply (reply.Throw c.in-Throw.value) (λ y a. native_gives c.args.which y (party_of a c.args.machine.now)) c.args.machine.now c.end_with.new.self c.in-Throw.is c.end_with.ensures
