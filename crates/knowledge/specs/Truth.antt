pub mod Truth
pub mod Situations
pub mod Rules
pub mod Runs
pub mod Verdicts
pub mod Script
