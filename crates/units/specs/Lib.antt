pub mod Fractions
pub mod Rounding
