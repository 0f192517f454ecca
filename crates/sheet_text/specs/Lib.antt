pub mod Faults
pub mod Refusals
pub mod Sheets
pub mod Writing
