pub mod Losses
mod Terms
mod Reaching
mod Limits
pub mod Gradients
pub mod Margin
pub mod Lawfully
pub mod Given
