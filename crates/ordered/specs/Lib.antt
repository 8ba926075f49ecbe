pub mod Lists
pub mod Pairs
pub mod Unions
