pub mod Chips
pub mod Commanded
pub mod Faults
pub mod Lending
pub mod Refusals
