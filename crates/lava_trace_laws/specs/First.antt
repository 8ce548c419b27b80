-- The trace of an empty module.
use Rattle.std.specs.Prelude.{[], ◌∷◌, codes, false, None}
use Rattle.lava_base.specs.declared.ids.Ref.{Ref}
use Rattle.lava_base.specs.declared.ids.Ref.TheVariants.{Own}
use Rattle.lava_base.specs.declared.marks.Class.TheVariants.{Object}
use Rattle.js_text.specs.declared.value.Value.TheVariants as value
use Rattle.js_desc.specs.declared.ask.Ask.TheVariants as ask
use Rattle.js_desc.specs.declared.crossing.CrossBody.TheVariants as body
use Rattle.js_desc.specs.declared.ending.Ending.TheVariants as ending
use Rattle.js_desc.specs.declared.reply.Reply.TheVariants as reply
use Rattle.lava_trace.specs.declared.line.Trace.{Trace}
use Rattle.lava_trace.specs.declared.line.TraceLine.{TraceLine}
use Rattle.lava_trace_laws.specs.Written.{IsLawful}

-- what the module exports
abbrev pub exported : Ref
exported = Own (record { 0 = 1 }) (record { 0 = 1 })

-- the host asks for the module
abbrev pub asked : TraceLine
asked = record {
  crossing = record { from = record { 0 = 0 }; to = record { 0 = 1 }; body = body.Ask None (ask.Import (codes "$root$") []) };
  marks = [];
}

-- and is answered with what it exports
abbrev pub answered : TraceLine
answered = record {
  crossing = record { from = record { 0 = 1 }; to = record { 0 = 0 }; body = body.Answer (reply.Value (value.Ref exported)) };
  marks = (exported, record { class = Object; callable = false; constructor = false }) ∷ [];
}

-- own: the trace of an empty module
abbrev pub first_trace : Trace
first_trace = record {
  parties = codes "$host$" ∷ codes "$root$" ∷ [];
  lines = asked ∷ answered ∷ [];
  steps = 0 ∷ 2 ∷ [];
  ending = ending.Done;
}

-- the trace of an empty module may be told, so what the laws ask is met
abbrev pub First_trace_is_lawful : Type 0
First_trace_is_lawful = IsLawful first_trace
