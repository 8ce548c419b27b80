use Rattle.std.proofs.Common.{sym, ◌∙◌}
use Rattle.js_text.specs.Naming.{naming_of}
use Rattle.js_run_laws.specs.js_operations.Looks.{marks_seen}
use Rattle.js_natives.specs.Families.{family_of}
use Rattle.js_natives.proofs.Step_laws.{converts_taken, texts_taken}
use Rattle.js_natives.proofs.natives.native_step.Goals as goal

pub returns-in-Texts-clause-ok : goal.returns-in-Texts-clause-ok
returns-in-Texts-clause-ok g c read r find f =
    let names = naming_of (g.S.Store.owner c.args.store.now).0 in
    let objects = g.S.Store.objects c.args.store.now in
    texts_taken names (marks_seen names objects c.args.common.now c.args.foreign.now) objects c.args.common.now read find c.args.which c.args.args.now (family_of c.args.which) c.text_native.result (sym c.family_of.ensures ∙ c.in-Texts.is) (c.text_native.ensures find f)

pub returns-in-Converts-clause-ok : goal.returns-in-Converts-clause-ok
returns-in-Converts-clause-ok g c read r find f =
    let names = naming_of (g.S.Store.owner c.args.store.now).0 in
    let objects = g.S.Store.objects c.args.store.now in
    converts_taken names (marks_seen names objects c.args.common.now c.args.foreign.now) objects c.args.common.now read find c.args.which c.args.args.now (family_of c.args.which) c.conversion_native.result (sym c.family_of.ensures ∙ c.in-Converts.is) (c.conversion_native.ensures read r)
