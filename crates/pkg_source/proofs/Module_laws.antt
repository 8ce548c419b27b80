-- Bytes are read as one module at most.
use Rattle.std.proofs.Common.{◌≡◌, ℕ, List, take, refl, sym, ap, ◌∙◌, ⊎_elim}
use Rattle.std.proofs.lemmas.Str.{utf8_valid_len-IsValidUpTo}
use Rattle.js_fault.specs.declared.fault.SyntaxFault.{SyntaxFault}
use Rattle.js_fault.specs.declared.fault.SyntaxFault.TheVariants.{At, OutOfMemory}
use Rattle.js_fault.specs.declared.fault.SyntaxWhat.{SyntaxWhat}
use Rattle.js_fault.specs.declared.fault.SyntaxWhat.TheVariants as what
use Rattle.js_lexer.specs.Sources.{end_place}
use Rattle.js_program.specs.Programs.{IsProgram}
use Rattle.js_reader.specs.Reading.{IsRefusal}
use Rattle.js_scope.specs.Resolutions.{resolved}
use Rattle.js_tree.specs.declared.tree.Module.{Module as Tree}
use Rattle.js_tree.specs.declared.tree.SourceKind.TheVariants.{Module as AsModule}
use Rattle.lava_base.specs.declared.place.Place.{Place}
use Rattle.pkg_load.specs.Sources.{plain_read, plain_reason}
use Rattle.pkg_load.specs.declared.reader.ModuleKind.TheVariants.{Source, Json}
use Rattle.pkg_load.specs.declared.reader.ModuleRead.TheVariants.{Module as Good, Refused}
use Rattle.pkg_source.specs.Laws.{One_module}
use Rattle.pkg_source.specs.Reading.{IsBrokenPlace, Read, IsSourceRead, IsJsonRead, requests_of, module_of}
use Rattle.pkg_source.specs.declared.code.ModuleCode.{ModuleCode}
use Rattle.pkg_source.specs.declared.code.ModuleCode.TheVariants as code

-- ONE REFUSAL

abbrev refusal : Place → SyntaxWhat → Read
refusal p w = Refused p w

no_memory : (p : Place) (w : SyntaxWhat) → At p w ≡ OutOfMemory → ⊥
no_memory p w e = cc

same_fault : (p q : Place) (w v : SyntaxWhat) → At p w ≡ At q v → refusal p (plain_reason w) ≡ refusal q (plain_reason v)
same_fault p q w v e = let at : p ≡ q = cc in let what : w ≡ v = cc in λ j. refusal (at j) (plain_reason (what j))

same_form : (p q : Place) (w : SyntaxWhat) (name other : List ℕ) → At p w ≡ At q (what.Unsupported other) → refusal p (plain_reason w) ≡ refusal q (plain_reason (what.Unsupported name))
same_form p q w name other e = same_fault p q w (what.Unsupported other) e

-- where a fault is told beside another one, it is this one but for the name of a form that is left out
one_fault : (p q : Place) (w v : SyntaxWhat) → IsRefusal q v (At p w) → refusal p (plain_reason w) ≡ refusal q (plain_reason v)
one_fault p q w (what.Unsupported name) h = ⊎_elim (λ k. same_form p q w name k.0 k.1) (λ e. absurd (no_memory p w e)) h
one_fault p q w what.NotUtf8 h = ⊎_elim (same_fault p q w what.NotUtf8) (λ e. absurd (no_memory p w e)) h
one_fault p q w what.BadToken h = ⊎_elim (same_fault p q w what.BadToken) (λ e. absurd (no_memory p w e)) h
one_fault p q w what.Unexpected h = ⊎_elim (same_fault p q w what.Unexpected) (λ e. absurd (no_memory p w e)) h
one_fault p q w what.TooDeep h = ⊎_elim (same_fault p q w what.TooDeep) (λ e. absurd (no_memory p w e)) h
one_fault p q w (what.Early name) h = ⊎_elim (same_fault p q w (what.Early name)) (λ e. absurd (no_memory p w e)) h

-- the bytes of a text break at one place
one_place : (bytes : List ℕ) (p q : Place) → IsBrokenPlace bytes p → IsBrokenPlace bytes q → p ≡ q
one_place bytes p q a b =
    let same : a.0 ≡ b.0 = sym (utf8_valid_len-IsValidUpTo bytes a.0 a.1) ∙ utf8_valid_len-IsValidUpTo bytes b.0 b.1 in
    a.2 ∙ ap (λ n. end_place (take n bytes)) same ∙ sym b.2

-- ONE MODULE

module _ (one : (bytes : List ℕ) (a b : Tree) → IsProgram AsModule bytes a → IsProgram AsModule bytes b → a ≡ b) where
  sources : (bytes : List ℕ) (a b : Read) → IsSourceRead bytes a → IsSourceRead bytes b → plain_read a ≡ plain_read b
  sources bytes (Good rs c) (Good qs d) (m, is, fine, requests, made) (n, also, well, asked, other) =
      let same : resolved m ≡ resolved n = ap resolved (one bytes m n is also) in
      let first : Good rs c ≡ module_of (resolved m) = ap (λ r. Good r c) requests ∙ ap (Good (requests_of (resolved m))) made in
      let second : Good qs d ≡ module_of (resolved n) = ap (λ r. Good r d) asked ∙ ap (Good (requests_of (resolved n))) other in
      first ∙ ap module_of same ∙ sym second
  sources bytes (Good rs c) (Refused place w) (m, is, fine, requests, made) h = absurd (fine place w (h.0))
  sources bytes (Refused place what) (Good rs c) h (m, is, fine, requests, made) = absurd (fine place what (h.0))
  sources bytes (Refused place w) (Refused other v) h g = one_fault place other w v (h.2 other v (g.0))

  texts : (bytes : List ℕ) (a b : Read) → IsJsonRead bytes a → IsJsonRead bytes b → plain_read a ≡ plain_read b
  texts bytes (Good rs c) (Good qs d) h g =
      ap (λ r. Good r c) (h.1 ∙ sym (g.1)) ∙ ap (Good qs) (h.2 ∙ sym (g.2))
  texts bytes (Good rs c) (Refused place w) h g = absurd (g.0 (h.0))
  texts bytes (Refused place w) (Good rs c) h g = absurd (h.0 (g.0))
  texts bytes (Refused place w) (Refused other v) h g = let at : place ≡ other = one_place bytes place other (h.1) (g.1) in λ j. Refused (at j) (plain_reason ((h.2 ∙ sym (g.2)) j))

  pub one_module : One_module
  one_module Source bytes a b h g = sources bytes a b h g
  one_module Json bytes a b h g = texts bytes a b h g
