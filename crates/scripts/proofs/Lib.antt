pub mod Steps
pub mod Passes
pub mod Decimal
pub mod Written
pub mod Whole
