pub mod Ascending
pub mod Holding
pub mod Pairing
pub mod Uniting
