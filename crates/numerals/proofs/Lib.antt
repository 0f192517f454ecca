pub mod Spelling
pub mod Plainness
pub mod Counts
pub mod RoundTrip
pub mod Values
pub mod Signs
