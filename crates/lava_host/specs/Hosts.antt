-- What the host's functions do to the outside, and what they reply.
use Rattle.std.specs.Prelude.{◌≡◌, ℕ, List, [], ◌∷◌, Bool, true, false, ◌||◌, ◌==◌, codes, pos, Option, Some, None, Result, Ok, Err, IfOk, if◌then◌else◌}
use Rattle.lava_base.specs.declared.ids.MadeSymbol.{MadeSymbol}
use Rattle.lava_base.specs.declared.ids.Ref.{Ref}
use Rattle.lava_base.specs.declared.ids.Ref.TheVariants as ref
use Rattle.js_text.specs.declared.value.Value.{Value}
use Rattle.js_text.specs.declared.value.Value.TheVariants as value
use Rattle.js_desc.specs.declared.ask.Ask.{Ask}
use Rattle.js_desc.specs.declared.ask.Ask.TheVariants as ask
use Rattle.js_desc.specs.declared.reply.Reply.TheVariants as reply
use Rattle.lava_streams.specs.Counts.{ForTold}
use Rattle.lava_streams.specs.Files.{Files}
use Rattle.lava_streams.specs.Folders.{file_read, listing_of}
use Rattle.lava_streams.specs.Left.{LeavesEnd}
use Rattle.lava_streams.specs.Lines.{line_of}
use Rattle.lava_streams.specs.Moments.{IsNext}
use Rattle.lava_streams.specs.Outside.{Stand, IsFaultless, HasFault, Grows, Fails}
use Rattle.lava_streams.specs.declared.folder.FileRead.{FileRead}
use Rattle.lava_streams.specs.declared.folder.FileRead.TheVariants as file
use Rattle.lava_streams.specs.declared.folder.Listing.{Listing}
use Rattle.lava_streams.specs.declared.folder.Listing.TheVariants as listing
use Rattle.lava_host.specs.Functions.{function_of}
use Rattle.lava_host.specs.Paths.{names_of_path, path_below}
use Rattle.lava_host.specs.Printed.{printed, printed_line}
use Rattle.lava_host.specs.Replies.{HostReply, throws, gives_nothing, IsLineReply, IsFileReply}
use Rattle.lava_host.specs.declared.fault.HostFault.{HostFault}
use Rattle.lava_host.specs.declared.fault.HostFault.TheVariants.{Outside, OutOfMemory}
use Rattle.lava_host.specs.declared.fault.Which.{Which}
use Rattle.lava_host.specs.declared.fault.Which.TheVariants as which
use Rattle.lava_host.specs.declared.files.TheConstants.{FILE_LIMIT}
use Rattle.lava_host.specs.declared.function.HostFunction.{HostFunction}
use Rattle.lava_host.specs.declared.function.HostFunction.TheVariants as function

abbrev pub HostAnswer : Type 0
HostAnswer = Result HostReply HostFault

abbrev pub HostValues : Type 0
HostValues = List (Value Ref MadeSymbol)

-- PRINTING

-- a line is put in one piece where lines are emitted, and goes nowhere where they are not
-- own: what `console` prints
abbrev pub Prints : Bool → List ℕ → Which → (before after : Stand (List ℕ)) → HostAnswer → Type 0
Prints false line sink before after (Ok r) = (r ≡ gives_nothing) × (after ≡ before)
Prints true line sink before after (Ok r) = (r ≡ gives_nothing) × Grows before after line
Prints false line sink before after (Err (Outside w)) = ⊥
Prints true line sink before after (Err (Outside w)) = (w ≡ sink) × Fails before after line
Prints emit line sink before after (Err OutOfMemory) = after ≡ before

-- READING

-- own: `input.line`
abbrev pub ReadsLine : (before after : Stand (List ℕ)) → HostAnswer → Type 0
ReadsLine before after (Ok r) =
    IsFaultless before after × ForTold before.told (λ bytes. IsLineReply (line_of bytes).0 r × (after.told ≡ Some (line_of bytes).1))
ReadsLine before after (Err (Outside w)) =
    (w ≡ which.Input) × HasFault before after × ForTold before.told (λ bytes. LeavesEnd bytes after.told)
ReadsLine before after (Err OutOfMemory) = IsFaultless before after

-- the moment is the first of those that were left, and the others are left now
abbrev pub IsMomentReply : List ℕ → Option (List ℕ) → HostReply → Type 0
IsMomentReply left now r = (moment : ℕ) × IsNext left moment now × (r ≡ reply.Value (value.Int (pos moment)))

-- own: `clock.now`. It takes no memory
abbrev pub TakesMoment : (before after : Stand (List ℕ)) → HostAnswer → Type 0
TakesMoment before after (Ok r) =
    IsFaultless before after × ForTold before.told (λ left. IsMomentReply left after.told r)
TakesMoment before after (Err (Outside w)) =
    (w ≡ which.Clock) × HasFault before after × ForTold before.told (λ left. LeavesEnd left after.told)
TakesMoment before after (Err OutOfMemory) = ⊥

-- LOOKING INTO THE FOLDER

-- the printed form of the first argument, or of undefined
-- own: an argument that serves as a path
abbrev pub path_argument : HostValues → List ℕ
path_argument [] = printed value.Undefined
path_argument (v ∷ vs) = printed v

abbrev pub IsFileAnswer : List ℕ → Option (List (List ℕ)) → Option Files → HostReply → Type 0
IsFileAnswer dir None told r = r ≡ throws (codes "outside the folder")
IsFileAnswer dir (Some names) told r = ForTold told (λ files. IsFileReply (file_read files (path_below dir names) FILE_LIMIT) r)

-- own: `fs.readFileSync`
abbrev pub ReadsFile : (dir path : List ℕ) → (before after : Stand Files) → HostAnswer → Type 0
ReadsFile dir path before after (Ok r) =
    IsFaultless before after × (after.told ≡ before.told) × IsFileAnswer dir (names_of_path path) before.told r
ReadsFile dir path before after (Err (Outside w)) = (w ≡ which.Folder) × HasFault before after × (after.told ≡ before.told)
ReadsFile dir path before after (Err OutOfMemory) = IsFaultless before after × (after.told ≡ before.told)

abbrev pub is_file : FileRead → Bool
is_file file.Absent = false
is_file file.Longer = true
is_file (file.Bytes bytes) = true

abbrev pub is_directory : Listing → Bool
is_directory listing.Absent = false
is_directory (listing.Names names) = true

-- whether a file or a directory stands there
abbrev pub stands : Files → List ℕ → Bool
stands files path = is_file (file_read files path 0) || is_directory (listing_of files path)

abbrev pub truth_reply : Bool → HostReply
truth_reply b = reply.Value (value.Bool b)

abbrev pub IsStandsAnswer : List ℕ → Option (List (List ℕ)) → Option Files → HostReply → Type 0
IsStandsAnswer dir None told r = r ≡ truth_reply false
IsStandsAnswer dir (Some names) told r = ForTold told (λ files. r ≡ truth_reply (stands files (path_below dir names)))

-- own: `fs.existsSync`
abbrev pub LooksForFile : (dir path : List ℕ) → (before after : Stand Files) → HostAnswer → Type 0
LooksForFile dir path before after (Ok r) =
    IsFaultless before after × (after.told ≡ before.told) × IsStandsAnswer dir (names_of_path path) before.told r
LooksForFile dir path before after (Err (Outside w)) = (w ≡ which.Folder) × HasFault before after × (after.told ≡ before.told)
LooksForFile dir path before after (Err OutOfMemory) = IsFaultless before after × (after.told ≡ before.told)

-- for private clauses: the same of a path of the folder, where it is known that the path leads into it

-- nothing but the count of faults has changed, and it rose exactly where a call on the folder failed
abbrev pub LeavesFolder : {T : Type 0} → (before after : Stand Files) → Result T HostFault → Type 0
LeavesFolder before after (Ok x) = IsFaultless before after × (after.told ≡ before.told)
LeavesFolder before after (Err (Outside w)) = (w ≡ which.Folder) × HasFault before after × (after.told ≡ before.told)
LeavesFolder before after (Err OutOfMemory) = IsFaultless before after × (after.told ≡ before.told)

abbrev pub ReadsInner : List ℕ → (before after : Stand Files) → HostAnswer → Type 0
ReadsInner path before after r =
    LeavesFolder before after r × ForTold before.told (λ files. IfOk r (λ x. IsFileReply (file_read files path FILE_LIMIT) x))

abbrev pub Tells : (Files → Bool) → (before after : Stand Files) → Result Bool HostFault → Type 0
Tells test before after r = LeavesFolder before after r × ForTold before.told (λ files. IfOk r (λ b. b ≡ test files))

abbrev pub FileInner : List ℕ → (before after : Stand Files) → Result Bool HostFault → Type 0
FileInner path before after r = Tells (λ files. is_file (file_read files path 0)) before after r

abbrev pub DirectoryInner : List ℕ → (before after : Stand Files) → Result Bool HostFault → Type 0
DirectoryInner path before after r = Tells (λ files. is_directory (listing_of files path)) before after r

abbrev pub StandsInner : List ℕ → (before after : Stand Files) → Result Bool HostFault → Type 0
StandsInner path before after r = Tells (λ files. stands files path) before after r

-- ALL FUNCTIONS

-- the objects of the outside, as they stand
pub record HostWorld : Type 0 where
  pub folder : Stand Files
  pub input : Stand (List ℕ)
  pub output : Stand (List ℕ)
  pub errors : Stand (List ℕ)
  pub clock : Stand (List ℕ)

abbrev pub host_world : Stand Files → (input output errors clock : Stand (List ℕ)) → HostWorld
host_world folder input output errors clock = record { folder = folder; input = input; output = output; errors = errors; clock = clock }

-- what a call of a function does, and that it touches no other object
-- own: the host's functions
abbrev pub Performs : HostFunction → HostValues → Bool → List ℕ → (before after : HostWorld) → HostAnswer → Type 0
Performs function.Log vs emit dir w v r = Prints emit (printed_line vs) which.Output w.output v.output r × (v ≡ record w { output = v.output })
Performs function.Info vs emit dir w v r = Prints emit (printed_line vs) which.Output w.output v.output r × (v ≡ record w { output = v.output })
Performs function.Warn vs emit dir w v r = Prints emit (printed_line vs) which.Errors w.errors v.errors r × (v ≡ record w { errors = v.errors })
Performs function.Error vs emit dir w v r = Prints emit (printed_line vs) which.Errors w.errors v.errors r × (v ≡ record w { errors = v.errors })
Performs function.Line vs emit dir w v r = ReadsLine w.input v.input r × (v ≡ record w { input = v.input })
Performs function.Now vs emit dir w v r = TakesMoment w.clock v.clock r × (v ≡ record w { clock = v.clock })
Performs function.ReadFileSync vs emit dir w v r = ReadsFile dir (path_argument vs) w.folder v.folder r × (v ≡ record w { folder = v.folder })
Performs function.ExistsSync vs emit dir w v r = LooksForFile dir (path_argument vs) w.folder v.folder r × (v ≡ record w { folder = v.folder })

-- the function that an ask at this target calls
abbrev pub called_function : Ref → Option HostFunction
called_function (ref.Common c) = None
called_function (ref.Own p i) = if p.0 == 0 then function_of i.0 else None

-- an ask that calls no function of the host throws, and touches nothing
abbrev pub Replies : Option HostFunction → Ask Ref MadeSymbol → Bool → List ℕ → (before after : HostWorld) → HostAnswer → Type 0
Replies (Some f) (ask.Call this vs) emit dir w v r = Performs f vs emit dir w v r
Replies None x emit dir w v (Ok r) = (r ≡ throws (codes "not a function")) × (v ≡ w)
Replies None x emit dir w v (Err (Outside o)) = ⊥
Replies None x emit dir w v (Err OutOfMemory) = v ≡ w
Replies (Some f) x emit dir w v (Ok r) = (r ≡ throws (codes "not a function")) × (v ≡ w)
Replies (Some f) x emit dir w v (Err (Outside o)) = ⊥
Replies (Some f) x emit dir w v (Err OutOfMemory) = v ≡ w
