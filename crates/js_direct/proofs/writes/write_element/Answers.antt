use Rattle.std.proofs.Common.{refl, rules}
use Rattle.js_code.specs.declared.node.Node.TheVariants as node
use Rattle.js_text.specs.declared.value.Key.TheVariants as key
use Rattle.js_direct.specs.Direct.{seen}
use Rattle.js_direct.proofs.Append.{direct_append, put_append}
use Rattle.js_direct.proofs.Put.{direct_put}
use Rattle.js_direct.proofs.writes.write_element.Goals as goal

pub returns-else-not-write_below-clause-write : goal.returns-else-not-write_below-clause-write
returns-else-not-write_below-clause-write g c =
    let s = seen (g.S.Store.owner c.args.store.now) (g.S.Store.objects c.args.store.now) c.args.code.now c.args.scopes.now c.args.scope in
    let element = c.in-Some-element_at.element in
    put_append s c.args.common.now (node.Put c.args.object c.args.key c.args.value) (g.S.Store.objects c.write_below.new.store) (record { value = c.in-Some-value_at.given.value; steps = c.in-Some-steps_within.steps })
    (direct_put s c.args.object c.args.key c.args.value c.in-Some.id.0 (key.Index element.index) element.steps c.in-Some-steps_within.steps c.in-Some-value_at.given (g.S.Store.objects c.write_below.new.store)
    c.in-Some.ensures c.in-Some-value_at.ensures c.in-Some-element_at.ensures c.in-Some-steps_within.ensures.0 (c.write_below.ensures.written c.in-Below.ensures (search rules) (search rules)))

pub returns-else-not-write_end-clause-write : goal.returns-else-not-write_end-clause-write
returns-else-not-write_end-clause-write g c =
    let s = seen (g.S.Store.owner c.args.store.now) (g.S.Store.objects c.args.store.now) c.args.code.now c.args.scopes.now c.args.scope in
    let element = c.in-Some-element_at.element in
    direct_append s c.args.common.now c.args.object c.args.key c.args.value c.in-Some.id.0 element.index element.steps (record { value = c.in-Some-value_at.given.value; steps = c.in-Some-append_steps_within.steps }) c.in-Some-value_at.given
    (g.S.Store.objects c.write_end.new.store) c.in-Some.ensures c.in-Some-value_at.ensures c.in-Some-element_at.ensures refl c.in-Some-append_steps_within.ensures.0 (c.write_end.ensures.appended c.in-End.ensures (search rules) (search rules))
