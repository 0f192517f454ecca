pub mod Meaning
pub mod Laws
pub mod Approaches
pub mod Answers
pub mod Refusals
pub mod Printed
