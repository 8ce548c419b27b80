-- After a refusal the bytes before the index are written, and the others are the rest.
use Rattle.std.proofs.Common.{◌∙◌, sym, take, drop, take-append-drop}
use Rattle.js_text.proofs.Units.{on_err}
use Rattle.js_text.proofs.characters.push_character.Goals as goal

pub returns-in_err-push-clause-err : goal.returns-in_err-push-clause-err
returns-in_err-push-clause-err c =
    let bytes = c.as_bytes-bytes.result.now in
    let i = c.loop-byte.byte-index in
    on_err c.from_residual.result
    (take i bytes, drop i bytes, c.in_err-push.ensures.err ∙ c.loop-byte.invariant, sym (c.as_bytes-bytes.ensures.value ∙ c.encode_utf8.ensures.value) ∙ sym (take-append-drop i bytes))
