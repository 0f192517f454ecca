pub mod Splits
pub mod Tracked
pub mod Begun
pub mod Grades
pub mod Lists
mod Exact
mod Grounds
pub mod Validity
pub mod Tracks
mod Zones
pub mod Steps
mod Memory
pub mod Runs
mod Examples
