pub mod Splits
pub mod Counting
pub mod Walks
pub mod Made
mod Cases
