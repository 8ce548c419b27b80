use Rattle.std.proofs.Common.{◌≡◌, ◌<◌, length, get_or, sym, ◌∙◌, IsTrue, arith}
use Rattle.js_machine.specs.Defaults.{is_derived}
use Rattle.js_machine.proofs.Defaulted.{is_ready}
use Rattle.js_machine_classes.proofs.defaults.default_place.Goals as goal

pub returns : goal.returns
returns c =
    let within : c.args.class < length c.args.places.now = omega (arith, c.if-class-places.false) in
    let kind : is_derived c.template-row.result.kind ≡ c.args.derived = grind (arith, c.is_derived.ensures, c.if-is_derived-derived.false) in
    let same : IsTrue c.is_same.result = search (c.if-not-is_same.false) in
    is_ready c.args.code.now (get_or c.args.places.now c.args.class 0) c.args.name c.template-row.result c.args.derived (c.requires.each c.args.class within) c.template-row.ensures kind
    (sym c.text.ensures ∙ c.is_same.ensures.equal.0 same ∙ c.text-2.ensures)
