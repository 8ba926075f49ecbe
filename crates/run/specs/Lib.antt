pub mod Parts
pub mod Elements
pub mod Files
pub mod Faults
pub mod Words
pub mod Runs
pub mod Text
pub mod Steps
