pub mod Spelled
pub mod OneLine
pub mod Split
pub mod ReadBack
pub mod Example
