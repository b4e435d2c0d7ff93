pub mod Cuts
pub mod Steps
pub mod Walked
pub mod Chunked
pub mod Counted
pub mod Below
