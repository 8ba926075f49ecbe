pub mod Waits
pub mod Lawful
pub mod Models
pub mod Loops
pub mod Calls
pub mod Law
