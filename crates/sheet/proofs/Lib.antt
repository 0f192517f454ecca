pub mod Limits
pub mod Rebuilding
pub mod OneList
