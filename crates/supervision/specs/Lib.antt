pub mod Adding
pub mod Placing
pub mod Items
pub mod Judging
pub mod Limits
pub mod Lists
pub mod Missions
