use Rattle.std.proofs.Common.{rules}
use Rattle.js_native.proofs.text_natives.index_in.Goals as goal

pub returns-in-Text : goal.returns-in-Text
returns-in-Text c = λ find finds. let h = c.first_place.ensures find finds in search rules
