pub mod Listed
pub mod Outputs
