pub mod Fronts
pub mod Founded
pub mod Pushed
pub mod Holding
