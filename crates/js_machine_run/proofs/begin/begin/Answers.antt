use Rattle.js_code.specs.declared.node.Node.TheVariants as node
use Rattle.js_machine.specs.Views.{native_on, next_part_of}
use Rattle.js_machine.proofs.Leads.{begun_ok}
use Rattle.js_machine_run.proofs.begin.begin.Goals as goal

pub returns-in-Unary : goal.returns-in-Unary
returns-in-Unary g c =
    begun_ok c.wait_operand.result c.args.at (node.Unary c.in-Unary.operator c.in-Unary.operand) c.args.machine.now c.wait_operand.new.machine c.in-Unary.ensures c.wait_operand.ensures

pub returns-in-Binary : goal.returns-in-Binary
returns-in-Binary g c =
    begun_ok c.wait_left.result c.args.at (node.Binary c.in-Binary.operator c.in-Binary.left c.in-Binary.right) c.args.machine.now c.wait_left.new.machine c.in-Binary.ensures c.wait_left.ensures

pub returns-in-Get : goal.returns-in-Get
returns-in-Get g c = begun_ok c.wait_object.result c.args.at (node.Get c.in-Get.object c.in-Get.key) c.args.machine.now c.wait_object.new.machine c.in-Get.ensures c.wait_object.ensures

pub returns-in-Put : goal.returns-in-Put
returns-in-Put g c = begun_ok c.wait_target.result c.args.at (node.Put c.in-Put.object c.in-Put.key c.in-Put.value) c.args.machine.now c.wait_target.new.machine c.in-Put.ensures c.wait_target.ensures

pub returns-in-Delete : goal.returns-in-Delete
returns-in-Delete g c = begun_ok c.wait_deleted.result c.args.at (node.Delete c.in-Delete.object c.in-Delete.key) c.args.machine.now c.wait_deleted.new.machine c.in-Delete.ensures c.wait_deleted.ensures

pub returns-in-SuperGet : goal.returns-in-SuperGet
returns-in-SuperGet g c = begun_ok c.wait_super.result c.args.at (node.SuperGet c.in-SuperGet.key) c.args.machine.now c.wait_super.new.machine c.in-SuperGet.ensures c.wait_super.ensures

pub returns-in-Call : goal.returns-in-Call
returns-in-Call g c =
    begun_ok c.wait_callee.result c.args.at (node.Call c.in-Call.callee c.in-Call.arguments) c.args.machine.now c.wait_callee.new.machine c.in-Call.ensures c.wait_callee.ensures

pub returns-in-New : goal.returns-in-New
returns-in-New g c = begun_ok c.wait_constructor.result c.args.at (node.New c.in-New.callee c.in-New.arguments) c.args.machine.now c.wait_constructor.new.machine c.in-New.ensures c.wait_constructor.ensures

pub returns-in-CallOn : goal.returns-in-CallOn
returns-in-CallOn g c =
    begun_ok c.wait_receiver.result c.args.at (node.CallOn c.in-CallOn.object c.in-CallOn.key c.in-CallOn.arguments) c.args.machine.now c.wait_receiver.new.machine c.in-CallOn.ensures c.wait_receiver.ensures

pub returns-in-Fresh : goal.returns-in-Fresh
returns-in-Fresh g c = begun_ok c.refresh.result c.args.at node.Fresh c.args.machine.now c.refresh.new.machine c.in-Fresh.ensures c.refresh.ensures

pub returns-in-This : goal.returns-in-This
returns-in-This g c = begun_ok c.begin_this.result c.args.at node.This c.args.machine.now c.begin_this.new.machine c.in-This.ensures c.begin_this.ensures

pub returns-in-NewTarget : goal.returns-in-NewTarget
returns-in-NewTarget g c = begun_ok c.begin_new_target.result c.args.at node.NewTarget c.args.machine.now c.begin_new_target.new.machine c.in-NewTarget.ensures c.begin_new_target.ensures

pub returns-in-Return : goal.returns-in-Return
returns-in-Return g c = begun_ok c.begin_return.result c.args.at node.Return c.args.machine.now c.begin_return.new.machine c.in-Return.ensures c.begin_return.ensures

pub returns-in-CallSuper : goal.returns-in-CallSuper
returns-in-CallSuper g c =
    begun_ok c.wait_method.result c.args.at (node.CallSuper c.in-CallSuper.key c.in-CallSuper.arguments) c.args.machine.now c.wait_method.new.machine c.in-CallSuper.ensures c.wait_method.ensures

pub returns-in-Define : goal.returns-in-Define
unfolding next_part_of
returns-in-Define g c =
    begun_ok c.wait_defined.result c.args.at (node.Define c.in-Define.object c.in-Define.start c.in-Define.count) c.args.machine.now c.wait_defined.new.machine c.in-Define.ensures c.wait_defined.ensures

pub returns-in-Class : goal.returns-in-Class
returns-in-Class g c = begun_ok c.begin_class.result c.args.at (node.Class c.in-Class.class) c.args.machine.now c.begin_class.new.machine c.in-Class.ensures c.begin_class.ensures

pub returns-in-Native : goal.returns-in-Native
unfolding native_on
returns-in-Native g c =
    begun_ok c.begin_native.result c.args.at (node.Native c.in-Native.native c.in-Native.start c.in-Native.count) c.args.machine.now c.begin_native.new.machine c.in-Native.ensures c.begin_native.ensures

pub returns-in-Undefined : goal.returns-in-Undefined
returns-in-Undefined g c = begun_ok c.give_undefined.result c.args.at node.Undefined c.args.machine.now c.give_undefined.new.machine c.in-Undefined.ensures c.give_undefined.ensures

pub returns-in-Null : goal.returns-in-Null
returns-in-Null g c = begun_ok c.give_null.result c.args.at node.Null c.args.machine.now c.give_null.new.machine c.in-Null.ensures c.give_null.ensures

pub returns-in-Iterator : goal.returns-in-Iterator
returns-in-Iterator g c = begun_ok c.give_iterator.result c.args.at node.Iterator c.args.machine.now c.give_iterator.new.machine c.in-Iterator.ensures c.give_iterator.ensures

pub returns-in-SetLocal : goal.returns-in-SetLocal
returns-in-SetLocal g c = begun_ok c.wait_local.result c.args.at (node.SetLocal c.in-SetLocal.hops c.in-SetLocal.slot c.in-SetLocal.constant c.in-SetLocal.value) c.args.machine.now c.wait_local.new.machine c.in-SetLocal.ensures c.wait_local.ensures

pub returns-in-Init : goal.returns-in-Init
returns-in-Init g c = begun_ok c.wait_first.result c.args.at (node.Init c.in-Init.hops c.in-Init.slot c.in-Init.value) c.args.machine.now c.wait_first.new.machine c.in-Init.ensures c.wait_first.ensures

pub returns-in-Short : goal.returns-in-Short
returns-in-Short g c = begun_ok c.wait_short.result c.args.at (node.Short c.in-Short.operator c.in-Short.left c.in-Short.right) c.args.machine.now c.wait_short.new.machine c.in-Short.ensures c.wait_short.ensures

pub returns-in-If : goal.returns-in-If
returns-in-If g c = begun_ok c.wait_test.result c.args.at (node.If c.in-If.test c.in-If.consequent) c.args.machine.now c.wait_test.new.machine c.in-If.ensures c.wait_test.ensures

pub returns-in-IfElse : goal.returns-in-IfElse
returns-in-IfElse g c = begun_ok c.wait_choice.result c.args.at (node.IfElse c.in-IfElse.test c.in-IfElse.consequent c.in-IfElse.alternate) c.args.machine.now c.wait_choice.new.machine c.in-IfElse.ensures c.wait_choice.ensures

pub returns-in-Label : goal.returns-in-Label
returns-in-Label g c = begun_ok c.wait_label.result c.args.at (node.Label c.in-Label.label c.in-Label.body) c.args.machine.now c.wait_label.new.machine c.in-Label.ensures c.wait_label.ensures

pub returns-in-Throw : goal.returns-in-Throw
returns-in-Throw g c = begun_ok c.wait_thrown.result c.args.at (node.Throw c.in-Throw.value) c.args.machine.now c.wait_thrown.new.machine c.in-Throw.ensures c.wait_thrown.ensures
