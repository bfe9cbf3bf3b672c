pub mod Lists
pub mod Moves
pub mod Locking
pub mod Tabled
pub mod Sound
pub mod Gathering
pub mod Undoing
