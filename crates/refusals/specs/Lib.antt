pub mod Bad
pub mod Exact
