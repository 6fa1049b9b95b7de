pub mod Format
pub mod Walk
pub mod Answers
pub mod Cases
