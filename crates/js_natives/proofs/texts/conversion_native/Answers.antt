use Rattle.std.proofs.Common.{◌≡◌, length, arith}
use Rattle.js_natives.proofs.Step_laws.{converts_one, one_operand}
use Rattle.js_natives.proofs.texts.conversion_native.Goals as goal

pub returns-in-len1 : goal.returns-in-len1
returns-in-len1 c read r =
    let one : length c.args.args.now ≡ 1 = omega (arith, c.in-len1.len_at_least, c.in-len1.len_below) in
    converts_one c.convert_value.result read c.args.which c.args.args.now c.value-item.result (one_operand c.args.args.now c.value-item.result one c.value-item.is) (c.convert_value.ensures read r)
