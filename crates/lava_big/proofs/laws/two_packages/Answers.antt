use Rattle.std.proofs.Common.{refl, lit<}
use Rattle.std.proofs.lemmas.Fmt.{decimal_digit}
use Rattle.lava_big.proofs.laws.two_packages.Goals as goal

pub returns : goal.returns
returns c = rw (decimal_digit 1 (lit< tt), decimal_digit 2 (lit< tt)) refl
