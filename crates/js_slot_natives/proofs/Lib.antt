pub mod Values_behind
