pub mod Ranks
pub mod Ages
pub mod Classes
pub mod Nevers
