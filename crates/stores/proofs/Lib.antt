pub mod Sets
pub mod Since
pub mod Drained
