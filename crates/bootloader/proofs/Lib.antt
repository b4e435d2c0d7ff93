pub mod Laying
pub mod Reading
pub mod Bounding
pub mod Changing
pub mod Spoiling
pub mod Spelling
