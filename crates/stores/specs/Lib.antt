pub mod Sets
pub mod Stores
pub mod Walks
pub mod OnePlaces
pub mod Few
