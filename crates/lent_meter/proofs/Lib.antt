pub mod Outcomes
mod Rows
mod Telling
mod Tests
mod Holding
pub mod Kept
