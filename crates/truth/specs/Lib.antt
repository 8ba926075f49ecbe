pub mod Systems
pub mod Truth
pub mod Deciding
pub mod Decided
