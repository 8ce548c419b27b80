mod Entries_laws
mod Merging_laws
mod Reading_laws
mod Writing_laws
