mod Padding
pub mod Keeping
