pub mod Near
pub mod Fraction
pub mod Root
pub mod Search
pub mod Answers
pub mod Wide
pub mod Laws
