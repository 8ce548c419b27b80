use Rattle.js_direct.specs.Direct.{value_of}
use Rattle.js_direct.proofs.Append.{written_element}
use Rattle.js_direct.proofs.appends.append_element.Goals as goal

pub returns-clause-appended : goal.returns-clause-appended
returns-clause-appended g c =
    let kept = c.args.kept in
    λ t. written_element (g.S.Store.objects c.args.store.now) (g.S.Store.objects c.apply.new.self) (g.S.Store.objects c.replace.new.self) c.args.id.0 c.args.index (value_of c.args.value) _ kept.enumerable kept.configurable c.in-Some.key c.length_behind.result
    c.requires c.as_value.ensures c.in-Some.ensures c.length_behind.ensures c.in-Ok.ensures.ok c.replace.ensures.objects
