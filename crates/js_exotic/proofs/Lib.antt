pub mod Array_laws
pub mod Length_laws
pub mod Lowering_laws
pub mod Renamed
pub mod Sound_laws
pub mod Verdict_laws
