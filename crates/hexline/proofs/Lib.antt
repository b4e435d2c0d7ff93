pub mod Pairs
pub mod Strays
pub mod Decided
pub mod Sorted
