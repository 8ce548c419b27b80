use Rattle.std.proofs.Common.{◌∙◌, sym, true, false}
use Rattle.js_native.specs.Costs.{makes_text}
use Rattle.js_machine.specs.js_run.NativeTurns.{gives_text}
use Rattle.js_machine.specs.Views.{party_of}
use Rattle.js_machine.proofs.In_cases.{in_case}
use Rattle.js_machine_natives.proofs.natives.give_text_of.Goals as goal

pub returns-then-makes_text : goal.returns-then-makes_text
returns-then-makes_text g c = in_case c.give_made_text.result (makes_text c.args.which) true (λ b a. gives_text b c.args.text (party_of a c.args.machine.now)) c.args.machine.now c.give_made_text.new.machine (sym c.makes_text.ensures ∙ c.if-makes_text.true) c.give_made_text.ensures

pub returns : goal.returns
returns g c = in_case c.give.result (makes_text c.args.which) false (λ b a. gives_text b c.args.text (party_of a c.args.machine.now)) c.args.machine.now c.give.new.self (sym c.makes_text.ensures ∙ c.if-makes_text.false) c.give.ensures.leads
