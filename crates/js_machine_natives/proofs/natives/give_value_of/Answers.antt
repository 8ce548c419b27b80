use Rattle.js_text.specs.declared.value.Value.TheVariants as value
use Rattle.js_desc.specs.declared.reply.Reply.TheVariants as reply
use Rattle.js_machine.specs.js_run.NativeTurns.{native_gives}
use Rattle.js_machine.specs.Views.{party_of}
use Rattle.js_machine.proofs.In_cases.{in_case}
use Rattle.js_machine_natives.proofs.Native_deeds.{other_given}
use Rattle.js_machine_natives.proofs.natives.give_value_of.Goals as goal

pub returns-in-Text : goal.returns-in-Text
returns-in-Text g c =
    in_case c.give_text_of.result c.args.value (value.Text c.in-Text.text) (λ v a. native_gives c.args.which (reply.Value v) (party_of a c.args.machine.now)) c.args.machine.now c.give_text_of.new.machine c.in-Text.is c.give_text_of.ensures

pub returns-in_default : goal.returns-in_default
returns-in_default g c = other_given c.give.result c.args.which c.args.value c.args.machine.now c.give.new.self c.in_default.not-Text c.give.ensures.leads
