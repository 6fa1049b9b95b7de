mod Cases
mod Approximations
mod Index
mod Air
pub mod StepBounds
pub mod Gas
pub mod Outcomes
pub mod Summing
mod Rounds
mod LimitBeforeSum
mod HydrogenClass
