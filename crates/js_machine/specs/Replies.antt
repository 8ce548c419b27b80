-- What frames do with answers that are no values.
use Rattle.lava_base.specs.declared.ids.MadeSymbol.{MadeSymbol}
use Rattle.lava_base.specs.declared.ids.Ref.{Ref}
use Rattle.js_text.specs.Naming.{naming_of}
use Rattle.js_desc.specs.declared.reply.Reply.{Reply}
use Rattle.js_operation.specs.js_run.Completions.{Replied}
use Rattle.js_operation.specs.js_run.Going.{go_on}
use Rattle.js_machine.specs.Steps.{Deed, over}
use Rattle.js_machine.specs.Views.{View, party_of}
use Rattle.js_machine.specs.declared.frame.Frame.{Frame}

-- what a frame does with a reply
abbrev pub deed_replied : Frame → Reply Ref MadeSymbol → View → Deed
deed_replied f r w = λ a. go_on (naming_of w.me) a.shared (over f w a) (Replied r) (party_of a w)
