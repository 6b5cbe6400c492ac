pub mod Records
pub mod Surveying
pub mod Standing
pub mod Laws
pub mod Breaches
pub mod InWords
