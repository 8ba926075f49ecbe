pub mod Accepting
pub mod Adding
pub mod Ruling
pub mod Given
pub mod Lowest
pub mod Making
pub mod Overlays
pub mod Finding
