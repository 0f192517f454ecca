pub mod Formulas
pub mod Brakes
pub mod Making
pub mod Plain
pub mod Ranges
pub mod Refusals
pub mod Laws
pub mod Lawfulness
