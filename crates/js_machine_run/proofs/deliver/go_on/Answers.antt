use Rattle.js_machine.specs.declared.frame.Frame.TheVariants as frame
use Rattle.js_machine.specs.Views.{next_part_of}
use Rattle.js_machine.proofs.Leads.{arm}
use Rattle.js_machine_run.proofs.deliver.go_on.Goals as goal

pub returns-in-BinaryLeft : goal.returns-in-BinaryLeft
returns-in-BinaryLeft g c = arm c.wait_with.result c.args.frame (frame.BinaryLeft c.in-BinaryLeft.operator c.in-BinaryLeft.right) c.args.value c.args.machine.now c.wait_with.new.self c.in-BinaryLeft.is c.wait_with.ensures

pub returns-in-SetLocal : goal.returns-in-SetLocal
returns-in-SetLocal g c = arm c.set_slot.result c.args.frame (frame.SetLocal c.in-SetLocal.hops c.in-SetLocal.slot c.in-SetLocal.constant) c.args.value c.args.machine.now c.set_slot.new.machine c.in-SetLocal.is c.set_slot.ensures

pub returns-in-Init : goal.returns-in-Init
returns-in-Init g c = arm c.init_slot.result c.args.frame (frame.Init c.in-Init.hops c.in-Init.slot) c.args.value c.args.machine.now c.init_slot.new.machine c.in-Init.is c.init_slot.ensures

pub returns-in-Updated : goal.returns-in-Updated
returns-in-Updated g c = arm c.test.result c.args.frame (frame.Updated c.in-Updated.turns) c.args.value c.args.machine.now c.test.new.machine c.in-Updated.is c.test.ensures

pub returns-in-Return : goal.returns-in-Return
returns-in-Return g c = arm c.end_with.result c.args.frame frame.Return c.args.value c.args.machine.now c.end_with.new.self c.in-Return.is c.end_with.ensures

pub returns-in-Throw : goal.returns-in-Throw
returns-in-Throw g c = arm c.end_with-in-Throw.result c.args.frame frame.Throw c.args.value c.args.machine.now c.end_with-in-Throw.new.self c.in-Throw.is c.end_with-in-Throw.ensures

pub returns-in-GetObject : goal.returns-in-GetObject
returns-in-GetObject g c = arm c.wait_with-in-GetObject.result c.args.frame (frame.GetObject c.in-GetObject.key) c.args.value c.args.machine.now c.wait_with-in-GetObject.new.self c.in-GetObject.is c.wait_with-in-GetObject.ensures

pub returns-in-PutObject : goal.returns-in-PutObject
returns-in-PutObject g c = arm c.wait_with-in-PutObject.result c.args.frame (frame.PutObject c.in-PutObject.key c.in-PutObject.at) c.args.value c.args.machine.now c.wait_with-in-PutObject.new.self c.in-PutObject.is c.wait_with-in-PutObject.ensures

pub returns-in-PutKey : goal.returns-in-PutKey
returns-in-PutKey g c = arm c.wait_with-in-PutKey.result c.args.frame (frame.PutKey c.in-PutKey.at) c.args.value c.args.machine.now c.wait_with-in-PutKey.new.self c.in-PutKey.is c.wait_with-in-PutKey.ensures

pub returns-in-DeleteObject : goal.returns-in-DeleteObject
returns-in-DeleteObject g c = arm c.wait_with-in-DeleteObject.result c.args.frame (frame.DeleteObject c.in-DeleteObject.key) c.args.value c.args.machine.now c.wait_with-in-DeleteObject.new.self c.in-DeleteObject.is c.wait_with-in-DeleteObject.ensures

pub returns-in-PutGlobal : goal.returns-in-PutGlobal
returns-in-PutGlobal g c = arm c.put_global.result c.args.frame (frame.PutGlobal c.in-PutGlobal.name c.in-PutGlobal.there) c.args.value c.args.machine.now c.put_global.new.machine c.in-PutGlobal.is c.put_global.ensures

pub returns-in-Decides : goal.returns-in-Decides
returns-in-Decides g c = arm c.resume_wait.result c.args.frame frame.Decides c.args.value c.args.machine.now c.resume_wait.new.machine c.in-Decides.is c.resume_wait.ensures

pub returns-in-Seq : goal.returns-in-Seq
returns-in-Seq g c = arm c.in_order.result c.args.frame (frame.Seq c.in-Seq.start c.in-Seq.count) c.args.value c.args.machine.now c.in_order.new.machine c.in-Seq.is c.in_order.ensures

pub returns-in-Callee : goal.returns-in-Callee
returns-in-Callee g c = arm c.callee_comes.result c.args.frame (frame.Callee c.in-Callee.arguments) c.args.value c.args.machine.now c.callee_comes.new.machine c.in-Callee.is c.callee_comes.ensures

pub returns-in-NewCallee : goal.returns-in-NewCallee
returns-in-NewCallee g c = arm c.new_callee_comes.result c.args.frame (frame.NewCallee c.in-NewCallee.arguments) c.args.value c.args.machine.now c.new_callee_comes.new.machine c.in-NewCallee.is c.new_callee_comes.ensures

pub returns-in-CallMethod : goal.returns-in-CallMethod
returns-in-CallMethod g c = arm c.method_comes.result c.args.frame (frame.CallMethod c.in-CallMethod.arguments) c.args.value c.args.machine.now c.method_comes.new.machine c.in-CallMethod.is c.method_comes.ensures

pub returns-in-Arguments : goal.returns-in-Arguments
returns-in-Arguments g c = arm c.argument_comes.result c.args.frame (frame.Arguments c.in-Arguments.purpose c.in-Arguments.done c.in-Arguments.start c.in-Arguments.left) c.args.value c.args.machine.now c.argument_comes.new.machine c.in-Arguments.is c.argument_comes.ensures

pub returns-in-CallObject : goal.returns-in-CallObject
returns-in-CallObject g c = arm c.wait_with-in-CallObject.result c.args.frame (frame.CallObject c.in-CallObject.key c.in-CallObject.arguments) c.args.value c.args.machine.now c.wait_with-in-CallObject.new.self c.in-CallObject.is c.wait_with-in-CallObject.ensures

pub returns-in-CallKey : goal.returns-in-CallKey
returns-in-CallKey g c = arm c.method_key_comes.result c.args.frame (frame.CallKey c.in-CallKey.arguments) c.args.value c.args.machine.now c.method_key_comes.new.machine c.in-CallKey.is c.method_key_comes.ensures

pub returns-in-ArgumentsOf : goal.returns-in-ArgumentsOf
returns-in-ArgumentsOf g c = arm c.arguments_listed.result c.args.frame (frame.ArgumentsOf c.in-ArgumentsOf.purpose) c.args.value c.args.machine.now c.arguments_listed.new.machine c.in-ArgumentsOf.is c.arguments_listed.ensures

pub returns-in-CallSuperKey : goal.returns-in-CallSuperKey
returns-in-CallSuperKey g c = arm c.super_method_key_comes.result c.args.frame (frame.CallSuperKey c.in-CallSuperKey.arguments) c.args.value c.args.machine.now c.super_method_key_comes.new.machine c.in-CallSuperKey.is c.super_method_key_comes.ensures

pub returns-in-CallSuperMethod : goal.returns-in-CallSuperMethod
returns-in-CallSuperMethod g c = arm c.super_method_comes.result c.args.frame (frame.CallSuperMethod c.in-CallSuperMethod.arguments) c.args.value c.args.machine.now c.super_method_comes.new.machine c.in-CallSuperMethod.is c.super_method_comes.ensures

pub returns-in-SuperKey : goal.returns-in-SuperKey
returns-in-SuperKey g c = arm c.super_key_comes.result c.args.frame frame.SuperKey c.args.value c.args.machine.now c.super_key_comes.new.machine c.in-SuperKey.is c.super_key_comes.ensures

pub returns-in-BindThis : goal.returns-in-BindThis
returns-in-BindThis g c = arm c.bind_this.result c.args.frame frame.BindThis c.args.value c.args.machine.now c.bind_this.new.machine c.in-BindThis.is c.bind_this.ensures

pub returns-in-IfElse : goal.returns-in-IfElse
returns-in-IfElse g c = arm c.branch-machine-in-IfElse.result c.args.frame (frame.IfElse c.in-IfElse.consequent c.in-IfElse.alternate) c.args.value c.args.machine.now c.branch-machine-in-IfElse.new.machine c.in-IfElse.is c.branch-machine-in-IfElse.ensures

pub returns-in-ShortLeft : goal.returns-in-ShortLeft
returns-in-ShortLeft g c = arm c.short.result c.args.frame (frame.ShortLeft c.in-ShortLeft.operator c.in-ShortLeft.right) c.args.value c.args.machine.now c.short.new.machine c.in-ShortLeft.is c.short.ensures

pub returns-in-Tested : goal.returns-in-Tested
returns-in-Tested g c = arm c.tested.result c.args.frame (frame.Tested c.in-Tested.turns) c.args.value c.args.machine.now c.tested.new.machine c.in-Tested.is c.tested.ensures

pub returns-in-Given : goal.returns-in-Given
returns-in-Given g c = arm c.give.result c.args.frame frame.Given c.args.value c.args.machine.now c.give.new.self c.in-Given.is c.give.ensures.leads

pub returns-in-Unary : goal.returns-in-Unary
returns-in-Unary g c = arm c.unary.result c.args.frame (frame.Unary c.in-Unary.operator) c.args.value c.args.machine.now c.unary.new.machine c.in-Unary.is c.unary.ensures

pub returns-in-BinaryRight : goal.returns-in-BinaryRight
returns-in-BinaryRight g c = arm c.go_on_binary.result c.args.frame (frame.BinaryRight c.in-BinaryRight.operator) c.args.value c.args.machine.now c.go_on_binary.new.machine c.in-BinaryRight.is c.go_on_binary.ensures

pub returns-in-InstanceOf : goal.returns-in-InstanceOf
returns-in-InstanceOf g c = arm c.prototype_comes.result c.args.frame frame.InstanceOf c.args.value c.args.machine.now c.prototype_comes.new.machine c.in-InstanceOf.is c.prototype_comes.ensures

pub returns-in-MethodGot : goal.returns-in-MethodGot
returns-in-MethodGot g c = arm c.method_got.result c.args.frame (frame.MethodGot c.in-MethodGot.last c.in-MethodGot.goal) c.args.value c.args.machine.now c.method_got.new.machine c.in-MethodGot.is c.method_got.ensures

pub returns-in-MethodCalled : goal.returns-in-MethodCalled
returns-in-MethodCalled g c = arm c.method_gave.result c.args.frame (frame.MethodCalled c.in-MethodCalled.last c.in-MethodCalled.goal) c.args.value c.args.machine.now c.method_gave.new.machine c.in-MethodCalled.is c.method_gave.ensures

pub returns-in-Define : goal.returns-in-Define
unfolding next_part_of
returns-in-Define g c = arm c.define_comes.result c.args.frame (frame.Define c.in-Define.start c.in-Define.count) c.args.value c.args.machine.now c.define_comes.new.machine c.in-Define.is c.define_comes.ensures

pub returns-in-Part : goal.returns-in-Part
returns-in-Part g c = arm c.part_operand_comes.result c.args.frame (frame.Part c.in-Part.enumerable c.in-Part.at c.in-Part.left) c.args.value c.args.machine.now c.part_operand_comes.new.machine c.in-Part.is c.part_operand_comes.ensures

pub returns-in-PartValue : goal.returns-in-PartValue
returns-in-PartValue g c = arm c.part_value_comes.result c.args.frame (frame.PartValue c.in-PartValue.enumerable c.in-PartValue.at c.in-PartValue.left) c.args.value c.args.machine.now c.part_value_comes.new.machine c.in-PartValue.is c.part_value_comes.ensures

pub returns-in-Parts : goal.returns-in-Parts
returns-in-Parts g c = arm c.parts_follow.result c.args.frame (frame.Parts c.in-Parts.enumerable c.in-Parts.start c.in-Parts.count) c.args.value c.args.machine.now c.parts_follow.new.machine c.in-Parts.is c.parts_follow.ensures

pub returns-in-ClassParent : goal.returns-in-ClassParent
unfolding next_part_of
returns-in-ClassParent g c = arm c.parent_comes.result c.args.frame (frame.ClassParent c.in-ClassParent.class) c.args.value c.args.machine.now c.parent_comes.new.machine c.in-ClassParent.is c.parent_comes.ensures

pub returns-in-ClassPrototype : goal.returns-in-ClassPrototype
returns-in-ClassPrototype g c = arm c.class_prototype_comes.result c.args.frame (frame.ClassPrototype c.in-ClassPrototype.class) c.args.value c.args.machine.now c.class_prototype_comes.new.machine c.in-ClassPrototype.is c.class_prototype_comes.ensures
