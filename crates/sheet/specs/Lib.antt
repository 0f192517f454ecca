pub mod Ranges
pub mod Refusals
pub mod Admitting
pub mod Lines
pub mod Lists
pub mod Limits
