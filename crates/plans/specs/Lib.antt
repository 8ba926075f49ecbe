pub mod Questions
pub mod Refusals
pub mod Tables
pub mod Rings
pub mod Held
