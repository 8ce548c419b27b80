-- Why no graph is read, and what a call that may fail so owes.
use Rattle.std.specs.Prelude.{◌≡◌, ℕ, Result, Ok, Err}
use Rattle.lava_streams.specs.declared.fault.ReadFault.{ReadFault}
use Rattle.lava_streams.specs.declared.fault.ReadFault.TheVariants.{Failed, OutOfMemory as NoMemory}
use Rattle.lava_streams.specs.Counts.{Rises}
use Rattle.pkg_graph.specs.declared.fault.GraphFault.{GraphFault}
use Rattle.pkg_graph.specs.declared.fault.GraphFault.TheVariants.{Manifest, Folder, TooMany, OutOfMemory}

-- what a reading that failed, or that found no memory, is told as
abbrev pub graph_fault_of : ReadFault → GraphFault
graph_fault_of Failed = Folder
graph_fault_of NoMemory = OutOfMemory

-- What a call does to the folder's count of faults: it rises where the answer is Folder, and stays at every other answer.
abbrev pub CountsFolder : {T : Type 0} → ℕ → ℕ → Result T GraphFault → Type 0
CountsFolder old new (Ok x) = new ≡ old
CountsFolder old new (Err (Manifest dir field)) = new ≡ old
CountsFolder old new (Err Folder) = Rises old new
CountsFolder old new (Err (TooMany what count)) = new ≡ old
CountsFolder old new (Err OutOfMemory) = new ≡ old

-- The answer is the expected one, unless a call on the folder failed or there was no memory.
abbrev pub Agrees : {T : Type 0} → Result T GraphFault → Result T GraphFault → Type 0
Agrees expected (Ok x) = expected ≡ Ok x
Agrees expected (Err (Manifest dir field)) = expected ≡ Err (Manifest dir field)
Agrees expected (Err Folder) = Unit {0}
Agrees expected (Err (TooMany what count)) = expected ≡ Err (TooMany what count)
Agrees expected (Err OutOfMemory) = Unit {0}

-- The same of a call that also changes a value, and what it then is.
abbrev pub Leaves : {S T : Type 0} → Result (S × T) GraphFault → S → Result T GraphFault → Type 0
Leaves expected after (Ok x) = expected ≡ Ok (after, x)
Leaves expected after (Err (Manifest dir field)) = expected ≡ Err (Manifest dir field)
Leaves expected after (Err Folder) = Unit {0}
Leaves expected after (Err (TooMany what count)) = expected ≡ Err (TooMany what count)
Leaves expected after (Err OutOfMemory) = Unit {0}
