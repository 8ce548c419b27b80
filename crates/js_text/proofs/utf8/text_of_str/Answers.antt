-- At the end the units are those of all characters.
use Rattle.std.proofs.Common.{◌++◌, ◌∙◌, ap, sym, length, arith}
use Rattle.std.proofs.lemmas.Iterator.{YieldsList-from_chars}
use Rattle.std.proofs.lemmas.Iterator.Consumers.{YieldsList-end}
use Rattle.std.proofs.lemmas.List.{map-id}
use Rattle.js_text.specs.Utf8.{utf16_of}
use Rattle.js_text.proofs.Encoded.{utf16_push}
use Rattle.js_text.proofs.utf8.text_of_str.Goals as goal

pub loop-character-preserved : goal.loop-character-preserved
loop-character-preserved c =
    c.in_ok-extend_from_slice.ensures.items ∙ (λ k. c.loop-character.invariant k ++ c.encode_utf16.ensures.value k) ∙ sym (utf16_push c.loop-character.yielded c.in-Some.character)

pub text_of_vec-requires : goal.text_of_vec-requires
text_of_vec-requires c =
    let t = YieldsList-end (YieldsList-from_chars c.args.text.now c.utf8.text cc) c.loop-character.yielded _ c.loop-character.yielded_by _ _ c.in-None.is c.next.ensures.steps in
    let made = c.loop-character.invariant ∙ ap utf16_of (sym (map-id c.loop-character.yielded) ∙ t.0) in
    omega (arith, ap length made, c.capped_len-len.ensures, c.if-len.false)

pub returns-clause-units : goal.returns-clause-units
returns-clause-units c =
    let t = YieldsList-end (YieldsList-from_chars c.args.text.now c.utf8.text cc) c.loop-character.yielded _ c.loop-character.yielded_by _ _ c.in-None.is c.next.ensures.steps in
    c.in_ok-text_of_vec.ensures ∙ c.loop-character.invariant ∙ ap utf16_of (sym (map-id c.loop-character.yielded) ∙ t.0)
