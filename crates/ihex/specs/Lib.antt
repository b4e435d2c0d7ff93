pub mod Texts
pub mod Reads
pub mod Named
pub mod Frames
pub mod Walks
pub mod Patches
