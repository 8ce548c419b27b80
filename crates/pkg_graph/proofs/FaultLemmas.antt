-- A fault that is passed on.
use Rattle.std.proofs.Common.{ℕ, Err}
use Rattle.pkg_graph.specs.Faults.{CountsFolder}
use Rattle.pkg_graph.specs.declared.fault.GraphFault.{GraphFault}
use Rattle.pkg_graph.specs.declared.fault.GraphFault.TheVariants.{Manifest, Folder, TooMany, OutOfMemory}

-- a fault counts as it did
pub counts_passed : (S T : Type 0) (old new : ℕ) (fault : GraphFault) → CountsFolder {T = S} old new (Err fault) → CountsFolder {T = T} old new (Err fault)
counts_passed S T old new (Manifest dir field) h = h
counts_passed S T old new Folder h = h
counts_passed S T old new (TooMany what count) h = h
counts_passed S T old new OutOfMemory h = h
