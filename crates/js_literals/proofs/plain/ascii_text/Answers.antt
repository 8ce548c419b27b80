use Rattle.std.proofs.Common.{◌≡◌, subst}
use Rattle.std.specs.Prelude.{IfOk}
use Rattle.js_literals.proofs.Answers_laws.{ascii_long, ascii_memory}
use Rattle.js_literals.proofs.Plain_laws.{ascii_units}
use Rattle.js_literals.proofs.plain.ascii_text.Goals as goal

pub returns-else-ascii-le-FEW-clause-units : goal.returns-else-ascii-le-FEW-clause-units
returns-else-ascii-le-FEW-clause-units c = subst (λ l. IfOk c.from_utf8.result (λ text. text ≡ l)) (ascii_units c.args.ascii.now c.requires) c.from_utf8.ensures.units

pub returns-else-ascii-le-FEW-clause-too_long : goal.returns-else-ascii-le-FEW-clause-too_long
returns-else-ascii-le-FEW-clause-too_long c = ascii_long c.from_utf8.result c.args.ascii.now c.requires c.from_utf8.ensures.too_long

pub returns-else-ascii-le-FEW-clause-memory : goal.returns-else-ascii-le-FEW-clause-memory
returns-else-ascii-le-FEW-clause-memory c = ascii_memory c.from_utf8.result c.args.ascii.now c.requires c.from_utf8.ensures.memory
