pub mod Lifted
pub mod Went
