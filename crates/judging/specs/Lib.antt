pub mod Marks
pub mod Judging
pub mod Texts
pub mod OnlyMarks
