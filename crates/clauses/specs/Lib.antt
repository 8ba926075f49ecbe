pub mod Kinds
pub mod Refusals
pub mod Lines
pub mod Literals
pub mod Sides
pub mod Rules
pub mod Steps
pub mod Calculus
