pub mod Between_laws
pub mod Line_laws
pub mod Piece_laws
pub mod Told_laws
