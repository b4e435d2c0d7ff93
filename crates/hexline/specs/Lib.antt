pub mod Faults
pub mod Digits
pub mod Records
pub mod Lines
pub mod Rows
