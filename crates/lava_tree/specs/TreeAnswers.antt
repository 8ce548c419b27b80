-- What `lava tree FILE` answers: the cause of each answer, and what the call leaves of the outside.
use Rattle.std.specs.Prelude.{◌≡◌, ℕ, List, [], ◌⊎◌, Option, Some}
use Rattle.lava_base.specs.declared.place.Place.{Place}
use Rattle.js_fault.specs.declared.fault.SyntaxFault.TheVariants as faults
use Rattle.js_fault.specs.declared.fault.SyntaxWhat.{SyntaxWhat}
use Rattle.js_lower_table.specs.Table.{source_template_of}
use Rattle.js_program.specs.js_parser.Trees.{IsModuleOf}
use Rattle.js_term.specs.declared.term.Template.{Template}
use Rattle.js_program.specs.Programs.{HasProgram, IsProgram, IsProgramFault}
use Rattle.js_reader.specs.Reading.{IsRefusal}
use Rattle.js_tree.specs.declared.tree.Module.{Module}
use Rattle.js_tree.specs.declared.tree.SourceKind.{SourceKind}
use Rattle.js_tree.specs.declared.tree.SourceKind.TheVariants as kinds
use Rattle.js_tree_lines.specs.Lines.{AreLinesOf}
use Rattle.lava_streams.specs.Counts.{ForTold}
use Rattle.lava_streams.specs.Files.{Files}
use Rattle.lava_streams.specs.Folders.{file_read}
use Rattle.lava_streams.specs.Outside.{Stand, Outside, IsFaultless, HasFault, Grows, Fails}
use Rattle.lava_streams.specs.declared.folder.FileRead.{FileRead}
use Rattle.lava_streams.specs.declared.folder.FileRead.TheVariants.{Bytes, Absent, Longer}
use Rattle.lava_lines.specs.Lines.{missing_line, syntax_line}
use Rattle.lava_lines.specs.Puts.{Puts}
use Rattle.lava_lines.specs.declared.status.TheConstants as texts
use Rattle.lava_tree.specs.declared.tree.TheConstants as tree
use Rattle.lava_tree.specs.declared.tree_source.TheConstants.{FILE_LIMIT}
use Rattle.lava_tree.specs.declared.tree_outcome.TreeOutcome.{TreeOutcome}
use Rattle.lava_tree.specs.declared.tree_outcome.TreeOutcome.TheVariants as outcome
use Rattle.lava_tree.specs.declared.tree_outcome.TreeSource.{TreeSource}
use Rattle.lava_tree.specs.declared.tree_outcome.TreeSource.TheVariants as source

-- what was read is the file of this path, where the folder tells its files
abbrev pub IsFileAt : Option Files → (path : List ℕ) → FileRead → Type 0
IsFileAt told path r = ForTold told (λ files. r ≡ file_read files path FILE_LIMIT)

-- no other fault is told of these bytes, but for another form that is left out at the same token, and they are no program
abbrev pub IsOnlyFault : (bytes : List ℕ) → Place → SyntaxWhat → Type 0
IsOnlyFault bytes place what =
    (HasProgram kinds.Module bytes → ⊥)
    × ((other : Place) (w : SyntaxWhat) → IsProgramFault kinds.Module bytes other w → IsRefusal other w (faults.At place what))

-- no fault is told of a file
abbrev pub HasNoFault : FileRead → Type 0
HasNoFault (Bytes bytes) = (place : Place) (what : SyntaxWhat) → IsProgramFault kinds.Module bytes place what → ⊥
HasNoFault Absent = Unit {0}
HasNoFault Longer = Unit {0}

-- the text is the lines of the module that these bytes are: of the term that the table of lowering gives
abbrev pub IsTreeText : (bytes text : List ℕ) → Type 0
IsTreeText bytes text = (m : Module) × IsProgram kinds.Module bytes m × AreLinesOf (source_template_of m) text

-- what a file is
abbrev pub IsTreeSource : FileRead → TreeSource → Type 0
IsTreeSource r source.Absent = r ≡ Absent
IsTreeSource r source.Longer = r ≡ Longer
IsTreeSource r (source.Refused place what) =
    (bytes : List ℕ) × (r ≡ Bytes bytes) × IsProgramFault kinds.Module bytes place what × IsOnlyFault bytes place what
IsTreeSource r (source.Lines text) = (bytes : List ℕ) × (r ≡ Bytes bytes) × IsTreeText bytes text × HasNoFault (Bytes bytes)

abbrev pub IsTreeOf : Option Files → (path : List ℕ) → TreeSource → Type 0
IsTreeOf told path s = (r : FileRead) × IsFileAt told path r × IsTreeSource r s

-- the cause of each outcome, with what it leaves of the folder and of the output
abbrev pub TreeComes : (path : List ℕ) → (before after : Outside) → TreeOutcome → Type 0
TreeComes path before after outcome.Finished =
    IsFaultless before.folder after.folder
    × ((text : List ℕ) × IsTreeOf before.folder.told path (source.Lines text) × Grows before.output after.output text)
TreeComes path before after outcome.Missing =
    IsFaultless before.folder after.folder × IsTreeOf before.folder.told path source.Absent × (after.output ≡ before.output)
TreeComes path before after outcome.TooLong =
    IsFaultless before.folder after.folder × IsTreeOf before.folder.told path source.Longer × (after.output ≡ before.output)
TreeComes path before after (outcome.Syntax place what) =
    IsFaultless before.folder after.folder × IsTreeOf before.folder.told path (source.Refused place what)
    × (after.output ≡ before.output)
TreeComes path before after outcome.FolderFailed = HasFault before.folder after.folder × (after.output ≡ before.output)
TreeComes path before after outcome.OutputFailed =
    IsFaultless before.folder after.folder
    × ((text : List ℕ) × IsTreeOf before.folder.told path (source.Lines text) × Fails before.output after.output text)
TreeComes path before after outcome.OutOfMemory =
    IsFaultless before.folder after.folder × (after.output ≡ before.output)

-- the exit status of an outcome
abbrev pub tree_status : TreeOutcome → ℕ
tree_status outcome.Finished = texts.DONE_STATUS
tree_status outcome.Missing = texts.LOADING_STATUS
tree_status outcome.TooLong = texts.LOADING_STATUS
tree_status (outcome.Syntax place what) = texts.LOADING_STATUS
tree_status outcome.FolderFailed = texts.OUTSIDE_STATUS
tree_status outcome.OutputFailed = texts.OUTSIDE_STATUS
tree_status outcome.OutOfMemory = texts.MEMORY_STATUS

-- the line on the errors
abbrev pub tree_line : (path : List ℕ) → TreeOutcome → List ℕ
tree_line path outcome.Finished = []
tree_line path outcome.Missing = missing_line texts.ROOT_PACKAGE.now path
tree_line path outcome.TooLong = tree.TOO_LONG_LINE.now
tree_line path (outcome.Syntax place what) = syntax_line texts.ROOT_PACKAGE.now path place what
tree_line path outcome.FolderFailed = tree.FOLDER_LINE.now
tree_line path outcome.OutputFailed = tree.OUTPUT_LINE.now
tree_line path outcome.OutOfMemory = texts.MEMORY_LINE.now

-- the line of an outcome is written, and the status is its own
abbrev pub TreeWrites : (path : List ℕ) → TreeOutcome → (before after : Stand (List ℕ)) → (status : ℕ) → Type 0
TreeWrites path o before after status = Puts (tree_line path o) (tree_status o) before after status

-- what is reported of an outcome: nothing of a finished one; where the line takes memory, want of it may be told
abbrev pub TreeReports : (path : List ℕ) → TreeOutcome → (before after : Stand (List ℕ)) → (status : ℕ) → Type 0
TreeReports path outcome.Finished before after status = (status ≡ texts.DONE_STATUS) × (after ≡ before)
TreeReports path o before after status = TreeWrites path o before after status ⊎ TreeWrites path outcome.OutOfMemory before after status

-- the answer of the call: some outcome has its cause, and is reported
abbrev pub TreeAnswers : (path : List ℕ) → (before after : Outside) → (status : ℕ) → Type 0
TreeAnswers path before after status =
    (o : TreeOutcome) × TreeComes path before after o × TreeReports path o before.errors after.errors status

-- WHAT FOLLOWS

-- the folder tells that this is the file
abbrev pub TellsFile : (path : List ℕ) → (before : Outside) → FileRead → Type 0
TellsFile path before r = (files : Files) × (before.folder.told ≡ Some files) × (file_read files path FILE_LIMIT ≡ r)

-- the folder failed, or memory ran out, and that was reported
abbrev pub TreeStops : (path : List ℕ) → (before after : Outside) → (status : ℕ) → Type 0
TreeStops path before after status =
    (HasFault before.folder after.folder × TreeWrites path outcome.FolderFailed before.errors after.errors status)
    ⊎ TreeWrites path outcome.OutOfMemory before.errors after.errors status

-- where the folder tells a program, its lines are appended, unless the folder or the output failed or memory ran out
abbrev pub TreeEnds : (path : List ℕ) → (before after : Outside) → (status : ℕ) → Type 0
TreeEnds path before after status =
    (bytes text : List ℕ) → TellsFile path before (Bytes bytes) → IsTreeText bytes text
    → ((status ≡ texts.DONE_STATUS) × Grows before.output after.output text × (after.errors ≡ before.errors))
    ⊎ (HasFault before.output after.output × TreeWrites path outcome.OutputFailed before.errors after.errors status)
    ⊎ TreeStops path before after status

-- where the folder tells a file that is no program, its fault is the answer (of several forms that are left out at one token one of them)
abbrev pub TreeRefuses : (path : List ℕ) → (before after : Outside) → (status : ℕ) → Type 0
TreeRefuses path before after status =
    (bytes : List ℕ) (place : Place) (what : SyntaxWhat) → TellsFile path before (Bytes bytes) → IsProgramFault kinds.Module bytes place what
    → ((at : Place) × (said : SyntaxWhat) × IsRefusal place what (faults.At at said) × TreeWrites path (outcome.Syntax at said) before.errors after.errors status)
    ⊎ TreeStops path before after status

-- where the folder tells that there is no such file, or one that is too long, that is the answer
abbrev pub TreeLacks : (path : List ℕ) → (before after : Outside) → (status : ℕ) → FileRead → TreeOutcome → Type 0
TreeLacks path before after status r o =
    TellsFile path before r → TreeWrites path o before.errors after.errors status ⊎ TreeStops path before after status

abbrev pub TreeMisses : (path : List ℕ) → (before after : Outside) → (status : ℕ) → Type 0
TreeMisses path before after status =
    TreeLacks path before after status Absent outcome.Missing × TreeLacks path before after status Longer outcome.TooLong

-- a source has one syntax tree at most, and a term one text of lines
abbrev pub OneTree : Type 0
OneTree = (kind : SourceKind) (bytes : List ℕ) (a b : Module) → IsModuleOf kind bytes a → IsModuleOf kind bytes b → a ≡ b

abbrev pub OneText : Type 0
OneText = (t : Template) (a b : List ℕ) → AreLinesOf t a → AreLinesOf t b → a ≡ b
