use Rattle.std.proofs.Common.{rules, ◌≡◌, false, subst}
use Rattle.std.specs.Prelude.{IfNone}
use Rattle.js_num.specs.SafeRange.{NoSafe}
use Rattle.js_literals.specs.NumericValues.{IsMv, is_enclosed}
use Rattle.js_literals.proofs.NumericValues_laws.{not_enclosed}
use Rattle.js_literals.proofs.numbers.numeric_value.Goals as goal

pub returns-then-not-is_enclosed-clause-none : goal.returns-then-not-is_enclosed-clause-none
returns-then-not-is_enclosed-clause-none c =
    let other : is_enclosed c.args.literal.now ≡ false = search rules in not_enclosed c.args.literal.now other

pub returns-clause-none : goal.returns-clause-none
returns-clause-none c =
    let same : c.deref.result.now ≡ c.args.literal.now = search rules in
    subst (λ l. IfNone c.value_of_units.result (NoSafe (IsMv l))) same c.value_of_units.ensures.none
