pub mod NearLaws
pub mod FractionLaws
pub mod RootLaws
pub mod SignedWords
mod Signs
mod Quotient
mod Newton
mod FirstCandidate
pub mod Search
mod Underway
mod Cases
