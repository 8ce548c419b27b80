use Rattle.std.proofs.Common.{rules, ◌≡◌, ◌<◌, sym, subst, w64, arith}
use Rattle.std.proofs.lemmas.Int.{to_z-of_z}
use Rattle.js_text.specs.Indices.{key_of_text}
use Rattle.js_text.specs.declared.value.Value.TheVariants as value
use Rattle.js_code.specs.declared.node.Node.TheVariants as node
use Rattle.js_tree.specs.declared.operator.UnaryOperator.TheVariants.{Plus}
use Rattle.js_direct.specs.Direct.{GivesAtOnce, HasData, IsNumberRow, seen}
use Rattle.js_direct.proofs.Given.{number_binary, number_indexed, number_literal, number_named, number_plus, number_slot}
use Rattle.js_direct.proofs.numbers.+number.Goals as goal

-- LITERALS AND SLOTS

pub number_at-returns-in-Int : goal.number_at-returns-in-Int
number_at-returns-in-Int g t c =
    let s = seen (g.S.Store.owner c.args.store.now) (g.S.Store.objects c.args.store.now) c.args.code.now c.args.scopes.now c.args.scope in
    λ l. subst (λ i. GivesAtOnce s c.args.at (value.Int i) 1) (sym (to_z-of_z w64 c.in-Int.number (search rules)))
    (number_literal s c.args.at c.node.result c.in-Int.number c.node.ensures.term c.in-Int.is)

pub operand_at-returns-in-Int : goal.operand_at-returns-in-Int
operand_at-returns-in-Int g t c =
    let s = seen (g.S.Store.owner c.args.store.now) (g.S.Store.objects c.args.store.now) c.args.code.now c.args.scopes.now c.args.scope in
    λ l. subst (λ i. GivesAtOnce s c.args.at (value.Int i) 1) (sym (to_z-of_z w64 c.in-Int.number (search rules)))
    (number_literal s c.args.at c.node.result c.in-Int.number c.node.ensures.term c.in-Int.is)

pub number_at-returns-in-Local : goal.number_at-returns-in-Local
number_at-returns-in-Local g t c =
    number_slot (seen (g.S.Store.owner c.args.store.now) (g.S.Store.objects c.args.store.now) c.args.code.now c.args.scopes.now c.args.scope) c.args.at c.node.result c.in-Local.hops c.in-Local.slot c.slot_number.result c.node.ensures.term c.in-Local.is c.slot_number.ensures

pub operand_at-returns-in-Local : goal.operand_at-returns-in-Local
operand_at-returns-in-Local g t c =
    number_slot (seen (g.S.Store.owner c.args.store.now) (g.S.Store.objects c.args.store.now) c.args.code.now c.args.scopes.now c.args.scope) c.args.at c.node.result c.in-Local.hops c.in-Local.slot c.slot_number.result c.node.ensures.term c.in-Local.is c.slot_number.ensures

-- OPERATORS

pub binary_number-returns : goal.binary_number-returns
binary_number-returns g t c =
    number_binary (seen (g.S.Store.owner c.args.store.now) (g.S.Store.objects c.args.store.now) c.args.code.now c.args.scopes.now c.args.scope) c.args.operator c.args.left c.args.right c.operated.result c.operand_at-left.result c.operand_at-right.result
    c.operand_at-left.ensures (omega (arith, c.if-left-eq0.false)) c.operand_at-right.ensures (omega (arith, c.if-right-eq0.false)) c.operated.ensures.number c.operated.ensures.steps

pub plus_number-returns : goal.plus_number-returns
plus_number-returns g t c =
    let s = seen (g.S.Store.owner c.args.store.now) (g.S.Store.objects c.args.store.now) c.args.code.now c.args.scopes.now c.args.scope in
    λ l. subst (λ i. IsNumberRow s (node.Unary Plus c.args.operand) (record { number = i; steps = c.steps_of.result })) (sym (to_z-of_z w64 c.operand_at-number.result.number (search rules)))
    (number_plus s c.args.operand c.steps_of.result c.operand_at-number.result c.operand_at-number.ensures (omega (arith, c.if-number-eq0.false)) c.steps_of.ensures l)

-- PROPERTIES

pub property_number-returns-in-Text : goal.property_number-returns-in-Text
property_number-returns-in-Text g t c =
    let s = seen (g.S.Store.owner c.args.store.now) (g.S.Store.objects c.args.store.now) c.args.code.now c.args.scopes.now c.args.scope in
    number_named s c.node.result c.args.object c.args.key c.in-Text.name c.in-Some.id.0 c.named_number.result c.in-Some.ensures c.node.ensures.term c.in-Text.is
    (subst (λ units. 0 < c.named_number.result.steps → HasData s.objects c.in-Some.id.0 (key_of_text units) (value.Int c.named_number.result.number) × (c.named_number.result.steps ≡ 4)) c.text.ensures c.named_number.ensures)

pub property_number-returns : goal.property_number-returns
property_number-returns g t c =
    number_indexed (seen (g.S.Store.owner c.args.store.now) (g.S.Store.objects c.args.store.now) c.args.code.now c.args.scopes.now c.args.scope) c.args.object c.args.key c.in-Some.id.0 c.indexed_number.result c.operand_at-index.result
    c.in-Some.ensures c.operand_at-index.ensures (omega (arith, c.if-index-eq0.false)) c.indexed_number.ensures
