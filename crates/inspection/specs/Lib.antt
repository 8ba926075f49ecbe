pub mod Waits
pub mod Held
pub mod Told
pub mod Accepted
pub mod Examples
pub mod Texts
