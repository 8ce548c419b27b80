pub mod FoundLemmas
pub mod IdLemmas
pub mod KnownLemmas
pub mod LawLemmas
pub mod OnwardLemmas
pub mod ReachLemmas
mod ReasonLemmas
pub mod SoundLemmas
pub mod StepLemmas
