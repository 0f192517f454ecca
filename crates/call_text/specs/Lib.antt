pub mod Calls
pub mod CallTexts
pub mod Faults
pub mod KindLines
pub mod Kinds
pub mod Lines
pub mod Reading
