pub mod Formulas
pub mod Meanings
pub mod Named
pub mod Scaling
pub mod Laws
pub mod Vl
pub mod Lawfulness
pub mod PipeTimes
