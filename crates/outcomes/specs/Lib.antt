pub mod Allowed
pub mod Bounds
pub mod Unplugged
