pub mod Writes
pub mod Lasts
pub mod Once
pub mod Reached
