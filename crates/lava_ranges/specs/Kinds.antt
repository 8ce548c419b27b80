-- Of which kind what crosses is.
use Rattle.std.specs.Prelude.{List, ⊤}
use Rattle.lava_base.specs.declared.ids.MadeSymbol.{MadeSymbol}
use Rattle.lava_base.specs.declared.ids.Ref.{Ref}
use Rattle.js_desc.specs.declared.crossing.CrossBody.{CrossBody}
use Rattle.js_desc.specs.declared.crossing.CrossBody.TheVariants as body
use Rattle.lava_trace.specs.Courses.{wanted}
use Rattle.lava_trace.specs.declared.answers.AnswerKind.{AnswerKind}
use Rattle.lava_trace_laws.specs.Sound.{IsOfKind}

-- an answer is of the kind that the latest open ask wants, or a throw
-- own: answers in a trace
abbrev pub OfKind : List AnswerKind → CrossBody Ref MadeSymbol → Type 0
OfKind asks (body.Ask target x) = ⊤
OfKind asks (body.Answer r) = IsOfKind (wanted asks) r
