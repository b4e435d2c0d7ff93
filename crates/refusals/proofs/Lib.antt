pub mod Broken
pub mod Tests
pub mod Lasts
pub mod Same
pub mod Found
pub mod Naming
pub mod Whole
