pub mod Ascents
pub mod Inserts
pub mod Members
pub mod Ordered
pub mod Removals
pub mod Splits
