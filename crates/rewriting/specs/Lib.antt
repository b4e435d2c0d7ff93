pub mod Ended
pub mod Cases
pub mod Laws
