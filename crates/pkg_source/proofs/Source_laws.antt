-- What js_program answers makes a source a module, or refuses it.
use Rattle.std.proofs.Common.{◌≡◌, ℕ, List, Result, Ok, Err, IfOk, refl, sym, subst}
use Rattle.js_fault.specs.declared.fault.SyntaxFault.{SyntaxFault}
use Rattle.js_fault.specs.declared.fault.SyntaxFault.TheVariants as fault
use Rattle.js_fault.specs.declared.fault.SyntaxWhat.{SyntaxWhat}
use Rattle.js_program.specs.Programs.{IsProgram, HasProgram, IsProgramFault, HasProgramCause}
use Rattle.js_fault.specs.declared.fault.SyntaxWhat.{SyntaxWhat}
use Rattle.js_reader.specs.Reading.{IsRefusal}
use Rattle.js_scope.specs.Resolutions.{resolved}
use Rattle.js_tree.specs.declared.tree.Module.{Module as Tree}
use Rattle.js_tree.specs.declared.tree.SourceKind.TheVariants.{Module as AsModule}
use Rattle.lava_base.specs.declared.memory.OutOfMemory.{OutOfMemory}
use Rattle.lava_base.specs.declared.place.Place.{Place}
use Rattle.pkg_load.specs.declared.reader.ModuleRead.TheVariants.{Refused}
use Rattle.pkg_source.specs.Reading.{Read, IsSourceRead, IsRefusedBy, module_of}

pub good_read : (bytes : List ℕ) (tree : Tree) (r : Result Read OutOfMemory) → IsProgram AsModule bytes tree → ((place : Place) (what : SyntaxWhat) → IsProgramFault AsModule bytes place what → ⊥) → IfOk r (λ x. x ≡ module_of (resolved tree)) → IfOk r (IsSourceRead bytes)
good_read bytes tree (Ok x) is fine made = subst (IsSourceRead bytes) (sym made) (tree, is, fine, refl, refl)
good_read bytes tree (Err e) is fine made = tt

pub bad_read : (bytes : List ℕ) (f : SyntaxFault) (r : Result Read OutOfMemory) → HasProgramCause AsModule bytes f → (HasProgram AsModule bytes → f ≡ fault.OutOfMemory) → ((p : Place) (w : SyntaxWhat) → IsProgramFault AsModule bytes p w → IsRefusal p w f) → IfOk r (IsRefusedBy f) → IfOk r (IsSourceRead bytes)
bad_read bytes (fault.At place what) (Ok x) cause only refused is = subst (IsSourceRead bytes) (sym is) (cause, (λ h. differ (only h)), refused)
  where
    differ : fault.At place what ≡ fault.OutOfMemory → ⊥
    differ e = cc
bad_read bytes fault.OutOfMemory (Ok x) cause only refused is = absurd is
bad_read bytes f (Err e) cause only refused is = tt
