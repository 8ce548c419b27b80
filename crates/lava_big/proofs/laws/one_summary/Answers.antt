use Rattle.std.proofs.Common.{refl, lit<}
use Rattle.std.proofs.lemmas.Fmt.{decimal_digit}
use Rattle.lava_big.proofs.laws.one_summary.Goals as goal

pub returns : goal.returns
returns c = rw (decimal_digit 1 (lit< tt), decimal_digit 6 (lit< tt), decimal_digit 0 (lit< tt)) refl
