pub mod Flaws
pub mod Shown
pub mod Layouts
pub mod Parse
pub mod Walk
