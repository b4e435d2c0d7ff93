pub mod Passing
pub mod Ranges
pub mod Wrapping
