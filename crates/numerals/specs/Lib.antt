pub mod Digits
pub mod Numerals
pub mod Writing
pub mod Laws
pub mod Taking
pub mod Signed
