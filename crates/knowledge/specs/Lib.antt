pub mod Faults
pub mod Lists
pub mod Sets
pub mod Seats
pub mod Plans
pub mod Tables
pub mod Truth
