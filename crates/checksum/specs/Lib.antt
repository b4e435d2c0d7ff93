pub mod Capitals
pub mod Outcomes
pub mod Sums
pub mod Ranges
