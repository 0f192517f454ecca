mod Items
mod Inside
mod Grades
mod SectionOrder
mod Holding
mod Verdicts
pub mod Promises
pub mod Follows
