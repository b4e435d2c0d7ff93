pub mod Faults
pub mod Pairs
