pub mod Cut
pub mod Bare
pub mod Ends
pub mod Starts
pub mod Cases
