pub mod Answers
pub mod Phases
pub mod Refusals
pub mod Zones
pub mod Printed
