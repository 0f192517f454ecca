pub mod Fronts
pub mod Acceptance
pub mod Room
pub mod Written
pub mod Described
