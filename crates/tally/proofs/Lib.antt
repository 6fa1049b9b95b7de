mod Answers
mod Cases
mod Energies
mod Alike
mod Steps
mod Volumes
pub mod Demand
pub mod Exists
pub mod LentRuns
pub mod LentExists
mod LimitBeforeSum
mod HydrogenClass
mod OtherStreams
mod Cited
