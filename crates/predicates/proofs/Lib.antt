pub mod Days
pub mod Ranges
pub mod Worked
