pub mod Orders
pub mod Registers
pub mod Streams
mod Means
pub mod Kept
pub mod Analyses
pub mod Outcomes
pub mod Daily
pub mod DayOnMeter
mod LimitBeforeSum
mod HydrogenClass
