pub mod Deriving
pub mod First
pub mod Joining
