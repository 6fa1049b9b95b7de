pub mod Words
pub mod Lent
pub mod Check
pub mod Kept
