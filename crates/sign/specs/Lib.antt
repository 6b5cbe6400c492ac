pub mod Marks
pub mod Signs
pub mod Layer
pub mod Codes
