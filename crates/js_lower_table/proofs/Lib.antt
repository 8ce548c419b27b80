pub mod Different_lengths
