-- What follows from the answer of the command.
use Rattle.std.proofs.Common.{◌≡◌, ℕ, ◌⊎◌, inl, inr, List, Option, Some, None, sym, ◌∙◌, subst, ap, refl, ⊎_elim}
use Rattle.lava_base.specs.declared.place.Place.{Place}
use Rattle.lava_streams.specs.Files.{Files}
use Rattle.lava_streams.specs.Folders.{file_read}
use Rattle.lava_streams.specs.Outside.{Outside, Grows}
use Rattle.lava_streams.specs.declared.folder.FileRead.{FileRead}
use Rattle.lava_streams.specs.declared.folder.FileRead.TheVariants.{Bytes, Absent, Longer}
use Rattle.js_fault.specs.declared.fault.SyntaxWhat.{SyntaxWhat}
use Rattle.js_lower_table.specs.Table.{source_template_of}
use Rattle.js_program.specs.Programs.{HasProgram, IsProgram, IsProgramFault}
use Rattle.js_tree.specs.declared.tree.SourceKind.TheVariants as kinds
use Rattle.js_tree_lines.specs.Lines.{AreLinesOf}
use Rattle.lava_tree.specs.declared.tree_source.TheConstants.{FILE_LIMIT}
use Rattle.lava_tree.specs.TreeAnswers.{IsFileAt, IsTreeText, OneText, OneTree, TellsFile, TreeAnswers, TreeComes, TreeEnds, TreeLacks, TreeMisses, TreeRefuses, TreeReports, TreeStops, TreeWrites}
use Rattle.lava_tree.specs.declared.tree_outcome.TreeOutcome.{TreeOutcome}
use Rattle.lava_tree.specs.declared.tree_outcome.TreeOutcome.TheVariants as outcome

-- what was read is what the folder tells
told_is : (path : List ℕ) (before : Outside) (r s : FileRead) → TellsFile path before s → IsFileAt before.folder.told path r → r ≡ s
told_is path before r s t h = (let read : r ≡ file_read t.0 path FILE_LIMIT = subst (λ told. IsFileAt told path r) t.1 h in read) ∙ t.2

bytes_are : (a b : List ℕ) → Bytes a ≡ Bytes b → a ≡ b
bytes_are a b e = cc

no_absent : (a : List ℕ) → Absent ≡ Bytes a → ⊥
no_absent a e = cc

no_longer : (a : List ℕ) → Longer ≡ Bytes a → ⊥
no_longer a e = cc

not_absent : Longer ≡ Absent → ⊥
not_absent e = cc

one_of : OneTree → OneText → (bytes a b : List ℕ) → IsTreeText bytes a → IsTreeText bytes b → a ≡ b
one_of tree text bytes a b x y = text (source_template_of y.0) a b (subst (λ m. AreLinesOf (source_template_of m) a) (tree kinds.Module bytes x.0 y.0 x.1.0 y.1.0) x.2) y.2

module _ (path : List ℕ) (before after : Outside) (status : ℕ) where
  abbrev Lacks : Type 0
  Lacks = TreeWrites path outcome.OutOfMemory before.errors after.errors status

  pub ends : OneTree → OneText → TreeAnswers path before after status → TreeEnds path before after status
  ends tree text (outcome.Finished, c, r) bytes t told is =
      let s = c.1.1 in
      let e : bytes ≡ s.2.0 = bytes_are bytes s.2.0 (sym (told_is path before s.0 (Bytes bytes) told s.1) ∙ s.2.1) in
      let same : c.1.0 ≡ t = one_of tree text bytes c.1.0 t (subst (λ b. IsTreeText b c.1.0) (sym e) s.2.2) is in
      inl (r.0, subst (Grows before.output after.output) same c.1.2, r.1)
  ends tree text (outcome.Missing, c, r) bytes t told is = absurd (no_absent bytes (sym c.1.2 ∙ told_is path before c.1.0 (Bytes bytes) told c.1.1))
  ends tree text (outcome.TooLong, c, r) bytes t told is = absurd (no_longer bytes (sym c.1.2 ∙ told_is path before c.1.0 (Bytes bytes) told c.1.1))
  ends tree text (outcome.Syntax place what, c, r) bytes t told is =
      let s = c.1 in
      let e : bytes ≡ s.2.0 = bytes_are bytes s.2.0 (sym (told_is path before s.0 (Bytes bytes) told s.1) ∙ s.2.1) in
      let found : HasProgram kinds.Module s.2.0 = (is.0, subst (λ b. IsProgram kinds.Module b is.0) e is.1) in
      absurd (s.2.3.0 found)
  ends tree text (outcome.FolderFailed, c, r) bytes t told is = ⊎_elim (λ w. inr (inr (inl (c.0, w)))) (λ w. inr (inr (inr w))) r
  ends tree text (outcome.OutputFailed, c, r) bytes t told is = ⊎_elim (λ w. inr (inl (c.1.2.0, w))) (λ w. inr (inr (inr w))) r
  ends tree text (outcome.OutOfMemory, c, r) bytes t told is = ⊎_elim (λ w. inr (inr (inr w))) (λ w. inr (inr (inr w))) r

  pub refuses : TreeAnswers path before after status → TreeRefuses path before after status
  refuses (outcome.Finished, c, r) bytes place what told fault =
      let s = c.1.1 in
      let e : bytes ≡ s.2.0 = bytes_are bytes s.2.0 (sym (told_is path before s.0 (Bytes bytes) told s.1) ∙ s.2.1) in
      absurd (s.2.3 place what (subst (λ b. IsProgramFault kinds.Module b place what) e fault))
  refuses (outcome.Missing, c, r) bytes place what told fault = absurd (no_absent bytes (sym c.1.2 ∙ told_is path before c.1.0 (Bytes bytes) told c.1.1))
  refuses (outcome.TooLong, c, r) bytes place what told fault = absurd (no_longer bytes (sym c.1.2 ∙ told_is path before c.1.0 (Bytes bytes) told c.1.1))
  refuses (outcome.Syntax at said, c, r) bytes place what told fault =
      let s = c.1 in
      let e : bytes ≡ s.2.0 = bytes_are bytes s.2.0 (sym (told_is path before s.0 (Bytes bytes) told s.1) ∙ s.2.1) in
      ⊎_elim (λ w. inl (at, said, s.2.3.1 place what (subst (λ b. IsProgramFault kinds.Module b place what) e fault), w)) (λ w. inr (inr w)) r
  refuses (outcome.FolderFailed, c, r) bytes place what told fault = ⊎_elim (λ w. inr (inl (c.0, w))) (λ w. inr (inr w)) r
  refuses (outcome.OutputFailed, c, r) bytes place what told fault =
      let s = c.1.1 in
      let e : bytes ≡ s.2.0 = bytes_are bytes s.2.0 (sym (told_is path before s.0 (Bytes bytes) told s.1) ∙ s.2.1) in
      absurd (s.2.3 place what (subst (λ b. IsProgramFault kinds.Module b place what) e fault))
  refuses (outcome.OutOfMemory, c, r) bytes place what told fault = ⊎_elim (λ w. inr (inr w)) (λ w. inr (inr w)) r

  absent : TreeAnswers path before after status → TreeLacks path before after status Absent outcome.Missing
  absent (outcome.Finished, c, r) told = (let s = c.1.1 in absurd (no_absent s.2.0 (sym (told_is path before s.0 Absent told s.1) ∙ s.2.1)))
  absent (outcome.Missing, c, r) told = ⊎_elim (λ w. inl w) (λ w. inr (inr w)) r
  absent (outcome.TooLong, c, r) told = absurd (not_absent (sym c.1.2 ∙ told_is path before c.1.0 Absent told c.1.1))
  absent (outcome.Syntax place what, c, r) told = (let s = c.1 in absurd (no_absent s.2.0 (sym (told_is path before s.0 Absent told s.1) ∙ s.2.1)))
  absent (outcome.FolderFailed, c, r) told = ⊎_elim (λ w. inr (inl (c.0, w))) (λ w. inr (inr w)) r
  absent (outcome.OutputFailed, c, r) told = (let s = c.1.1 in absurd (no_absent s.2.0 (sym (told_is path before s.0 Absent told s.1) ∙ s.2.1)))
  absent (outcome.OutOfMemory, c, r) told = ⊎_elim (λ w. inr (inr w)) (λ w. inr (inr w)) r

  longer : TreeAnswers path before after status → TreeLacks path before after status Longer outcome.TooLong
  longer (outcome.Finished, c, r) told = (let s = c.1.1 in absurd (no_longer s.2.0 (sym (told_is path before s.0 Longer told s.1) ∙ s.2.1)))
  longer (outcome.Missing, c, r) told = absurd (not_absent (sym (told_is path before c.1.0 Longer told c.1.1) ∙ c.1.2))
  longer (outcome.TooLong, c, r) told = ⊎_elim (λ w. inl w) (λ w. inr (inr w)) r
  longer (outcome.Syntax place what, c, r) told = (let s = c.1 in absurd (no_longer s.2.0 (sym (told_is path before s.0 Longer told s.1) ∙ s.2.1)))
  longer (outcome.FolderFailed, c, r) told = ⊎_elim (λ w. inr (inl (c.0, w))) (λ w. inr (inr w)) r
  longer (outcome.OutputFailed, c, r) told = (let s = c.1.1 in absurd (no_longer s.2.0 (sym (told_is path before s.0 Longer told s.1) ∙ s.2.1)))
  longer (outcome.OutOfMemory, c, r) told = ⊎_elim (λ w. inr (inr w)) (λ w. inr (inr w)) r

  pub misses : TreeAnswers path before after status → TreeMisses path before after status
  misses h = (absent h, longer h)
