-- At the end the units of all characters are written.
use Rattle.std.proofs.Common.{◌≡◌, ℕ, List, [], ◌∷◌, ◌++◌, ap, sym, ◌∙◌}
use Rattle.std.proofs.lemmas.Grind.{flat_map-append}
use Rattle.std.proofs.lemmas.Iterator.{YieldsList-from_chars}
use Rattle.std.proofs.lemmas.Iterator.Consumers.{YieldsList-end}
use Rattle.std.proofs.lemmas.List.{append-nil, append_assoc, map-id}
use Rattle.std.specs.Char.Escape.{encode_utf16}
use Rattle.std.specs.List.{flat_map}
use Rattle.js_text.specs.Utf8.{utf16_of}
use Rattle.lava_journal.specs.Quotes.{quoted_unit}
use Rattle.lava_journal.proofs.frame.push_name.Goals as goal

utf16_push : (cs : List ℕ) (c : ℕ) → utf16_of (cs ++ c ∷ []) ≡ utf16_of cs ++ encode_utf16 c
utf16_push [] c = append-nil (encode_utf16 c)
utf16_push (x ∷ cs) c = ap (λ l. encode_utf16 x ++ l) (utf16_push cs c) ∙ sym (append_assoc (encode_utf16 x) (utf16_of cs) (encode_utf16 c))

pub loop-character-preserved : goal.loop-character-preserved
loop-character-preserved c =
    let start = c.args.out.now in
    let units = utf16_of c.loop-character.yielded in
    let more = encode_utf16 c.in-Some.character in
    c.in_ok-push_units.ensures
    ∙ (λ k. c.loop-character.invariant k ++ flat_map quoted_unit (c.encode_utf16.ensures.value k))
    ∙ append_assoc start (flat_map quoted_unit units) (flat_map quoted_unit more)
    ∙ ap (λ l. start ++ l) (sym (flat_map-append quoted_unit units more))
    ∙ ap (λ u. start ++ flat_map quoted_unit u) (sym (utf16_push c.loop-character.yielded c.in-Some.character))

pub returns : goal.returns
returns c =
    let t = YieldsList-end (YieldsList-from_chars c.args.name.now c.utf8.name cc) c.loop-character.yielded _ c.loop-character.yielded_by _ _ c.in-None.is c.next.ensures.steps in
    c.loop-character.invariant ∙ ap (λ u. c.args.out.now ++ flat_map quoted_unit (utf16_of u)) (sym (map-id c.loop-character.yielded) ∙ t.0)
