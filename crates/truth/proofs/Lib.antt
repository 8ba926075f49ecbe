pub mod Below
pub mod Nexts
pub mod Sooner
pub mod Walks
pub mod Rulings
