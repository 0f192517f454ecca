pub mod Sheets
pub mod Stated
