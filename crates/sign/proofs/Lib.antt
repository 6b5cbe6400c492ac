pub mod Exchanges
pub mod Marked
pub mod HandedDown
pub mod Signed
