pub mod Continuing
pub mod Going
pub mod Planning
pub mod Reading
pub mod Stepping
pub mod Taking
pub mod Working
