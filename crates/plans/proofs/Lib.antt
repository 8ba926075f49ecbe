pub mod Leading
pub mod Fitting
