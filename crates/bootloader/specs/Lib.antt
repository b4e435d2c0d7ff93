pub mod Faults
pub mod Commands
pub mod Frames
pub mod Replies
pub mod Strings
pub mod Laws
