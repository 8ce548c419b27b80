use Rattle.std.proofs.Common.{rules, ◌≡◌, ◌∙◌, List, ℕ, refl, subst, sym}
use Rattle.lava_base.specs.declared.place.Place.{Place}
use Rattle.js_fault.specs.declared.fault.SyntaxFault.{SyntaxFault}
use Rattle.js_fault.specs.declared.fault.SyntaxFault.TheVariants as fault
use Rattle.js_fault.specs.declared.fault.SyntaxWhat.{SyntaxWhat}
use Rattle.js_program.specs.Programs.{HasProgram, HasProgramCause, IsProgramFault}
use Rattle.js_reader.specs.Reading.{IsRefusal}
use Rattle.js_tree.specs.declared.tree.SourceKind.TheVariants as kinds
use Rattle.lava_streams.specs.declared.folder.FileRead.TheVariants.{Bytes}
use Rattle.lava_tree.specs.TreeAnswers.{IsTreeSource}
use Rattle.lava_tree.specs.declared.tree_outcome.TreeSource.TheVariants as source
use Rattle.lava_tree.proofs.tree_source.source_of.Goals as goal

pub returns-in_ok-lines-in-Ok : goal.returns-in_ok-lines-in-Ok
returns-in_ok-lines-in-Ok c = (c.args.bytes.now, refl, (c.in-Ok.module, c.in-Ok.ensures.program, c.in_ok-lines-in-Ok.ensures), c.in-Ok.ensures.refused)

-- the fault that a refusal tells
refused_by : (b : List ℕ) (f : SyntaxFault) (at p : Place) (said w : SyntaxWhat) → at ≡ p → said ≡ w → f ≡ fault.At p w
    → HasProgramCause kinds.Module b f → (HasProgram kinds.Module b → f ≡ fault.OutOfMemory)
    → ((other : Place) (x : SyntaxWhat) → IsProgramFault kinds.Module b other x → IsRefusal other x f) → IsTreeSource (Bytes b) (source.Refused at said)
refused_by b f at p said w e s is cause only refused =
    subst (λ x. IsTreeSource (Bytes b) (source.Refused at x)) (sym s) (subst (λ x. IsTreeSource (Bytes b) (source.Refused x w)) (sym e)
    (b, refl, subst (HasProgramCause kinds.Module b) is cause, ((λ h. absurd (let z : fault.At p w ≡ fault.OutOfMemory = sym is ∙ only h in cc)), (λ other x i. subst (IsRefusal other x) is (refused other x i)))))

pub returns-in-Err-At : goal.returns-in-Err-At
returns-in-Err-At c =
    let e = c.in-Err-At.ensures in
    refused_by c.args.bytes.now c.in-Err-At.field-0 _ c.in-Err-At.place _ c.in-Err-At.what (search rules) (search rules) c.in-Err-At.field-0-is e.cause e.only e.refused
