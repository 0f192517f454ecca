pub mod Factors
pub mod Slopes
pub mod Stops
pub mod Meanings
pub mod Steps
pub mod Laws
