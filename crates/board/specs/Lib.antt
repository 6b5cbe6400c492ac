pub mod Sheets
pub mod Requests
pub mod Calls
pub mod Turns
