pub mod Sides
pub mod Targets
pub mod Bytes
pub mod Growing
pub mod Breaking
pub mod Lowest
pub mod Verdicts
pub mod Exact
