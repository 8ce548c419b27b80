use Rattle.js_text.specs.Naming.{naming_of}
use Rattle.js_run_laws.specs.js_operations.Looks.{marks_seen}
use Rattle.js_natives.proofs.Resumed_laws.{conversion_taken, maker_taken, object_taken}
use Rattle.js_natives.proofs.resume.step_resumed.Goals as goal

pub returns-in_ok-resume_native-in-Object-clause-ok : goal.returns-in_ok-resume_native-in-Object-clause-ok
returns-in_ok-resume_native-in-Object-clause-ok g c read n =
    let names = naming_of (g.S.Store.owner c.args.store.now).0 in
    let objects = g.S.Store.objects c.args.store.now in
    object_taken names (marks_seen names objects c.args.common.now c.args.foreign.now) objects c.args.common.now read c.args.reply (g.S.Store.objects c.resume_native.new.store) c.args.next c.in-Object.next c.of_object.result c.in_ok-resume_native-in-Object.field-0
    c.in-Object.is c.of_object.ensures (c.in_ok-resume_native-in-Object.ensures.ok read n)

pub returns-in_ok-resume_maker-in-Maker-clause-ok : goal.returns-in_ok-resume_maker-in-Maker-clause-ok
returns-in_ok-resume_maker-in-Maker-clause-ok g c read n =
    let names = naming_of (g.S.Store.owner c.args.store.now).0 in
    let objects = g.S.Store.objects c.args.store.now in
    maker_taken names (marks_seen names objects c.args.common.now c.args.foreign.now) objects c.args.common.now read c.args.reply (g.S.Store.objects c.resume_maker.new.store) c.args.next c.in-Maker.next c.of_maker.result c.in_ok-resume_maker-in-Maker.field-0
    c.in-Maker.is c.of_maker.ensures (c.in_ok-resume_maker-in-Maker.ensures.ok read n)

pub returns-in_ok-resume_conversion-in-Conversion-clause-ok : goal.returns-in_ok-resume_conversion-in-Conversion-clause-ok
returns-in_ok-resume_conversion-in-Conversion-clause-ok g c read n =
    let names = naming_of (g.S.Store.owner c.args.store.now).0 in
    let objects = g.S.Store.objects c.args.store.now in
    conversion_taken names (marks_seen names objects c.args.common.now c.args.foreign.now) objects c.args.common.now read c.args.reply objects c.args.next c.in-Conversion.next c.of_conversion.result c.in_ok-resume_conversion-in-Conversion.field-0
    c.in-Conversion.is c.of_conversion.ensures (c.in_ok-resume_conversion-in-Conversion.ensures read n)
