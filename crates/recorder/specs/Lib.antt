pub mod Padded
pub mod Kept
pub mod Books
pub mod Viewed
pub mod Recording
pub mod Laws
