pub mod Alike_laws
pub mod Known_laws
pub mod Page_laws
pub mod Piece_laws
pub mod Seen_laws
pub mod Start_laws
pub mod View_laws
