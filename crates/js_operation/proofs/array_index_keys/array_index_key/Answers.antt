use Rattle.std.proofs.Common.{rules, ap, sym, w64, ◌∙◌}
use Rattle.std.proofs.lemmas.Int.{to_z-of_z}
use Rattle.lava_base.specs.declared.ids.MadeSymbol.{MadeSymbol}
use Rattle.std.specs.Fmt.{signed_decimal}
use Rattle.js_text.specs.Indices.{key_of_text}
use Rattle.js_operation.proofs.Indexed.{indexed}
use Rattle.js_operation.proofs.array_index_keys.array_index_key.Goals as goal

pub returns : goal.returns
returns c =
    let same = to_z-of_z w64 c.args.number c.ranges.number in
    sym (ap (λ i. key_of_text {S = MadeSymbol} (signed_decimal i)) (sym same) ∙ indexed _ _ c.if-number-lt0.false c.if-number-from.false (to_z-of_z w64 c.from.result (search rules) ∙ c.from.ensures))
