pub mod Once
pub mod Figures
