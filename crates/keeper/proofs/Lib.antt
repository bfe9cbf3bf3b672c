pub mod Told
pub mod Dealt
pub mod Withdrawn
pub mod Beside
pub mod Stepped
pub mod Among
pub mod Went
