pub mod Every
mod RuleLaws
pub mod Entries
pub mod Places
pub mod SignedSums
pub mod SumLaws
pub mod AllLines
pub mod Bounds
pub mod Summing
mod Cases
