pub mod Formulas
pub mod Tables
pub mod Questions
pub mod Measures
pub mod Check
pub mod Breaches
