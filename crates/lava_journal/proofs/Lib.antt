pub mod Count_laws
pub mod Flat_laws
pub mod Piece_laws
pub mod Sheet_laws
