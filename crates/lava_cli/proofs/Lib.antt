mod Comes
mod Decided
mod BigDecided
mod Decides
mod Finished
mod BigFinished
mod Finishes
mod Isolation
