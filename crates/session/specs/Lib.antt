pub mod Answers
pub mod Lines
pub mod Printed
pub mod SheetLines
pub mod Texts
