pub mod Entries
pub mod Carrying
pub mod Cabled
pub mod Laws
