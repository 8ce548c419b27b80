-- Each character adds its one or two units.
use Rattle.std.proofs.Common.{◌∙◌, ap, sym, length, min}
use Rattle.std.proofs.lemmas.Iterator.{YieldsList-from_chars}
use Rattle.std.proofs.lemmas.Iterator.Consumers.{YieldsList-end}
use Rattle.std.proofs.lemmas.List.{map-id}
use Rattle.js_text.specs.Utf8.{utf16_of}
use Rattle.js_text.proofs.Encoded.{capped_push}
use Rattle.js_text.proofs.utf8.capped_len.Goals as goal

pub loop-character-preserved : goal.loop-character-preserved
loop-character-preserved c =
    c.min-len.ensures ∙ capped_push c.loop-character.yielded c.in-Some.character c.len_utf16.result c.loop-character.len 1048577 c.len_utf16.ensures.bmp c.len_utf16.ensures.surrogate_pair c.loop-character.invariant

pub returns : goal.returns
returns c =
    let t = YieldsList-end (YieldsList-from_chars c.args.text.now c.utf8.text cc) c.loop-character.yielded _ c.loop-character.yielded_by _ _ c.in-None.is c.next.ensures.steps in
    c.loop-character.invariant ∙ ap (λ cs. min (length (utf16_of cs)) 1048577) (sym (map-id c.loop-character.yielded) ∙ t.0)
