pub mod OrderLaws
pub mod Returned
mod Placing
pub mod Heads
pub mod RoundTrips
mod Scans
pub mod EntryLaws
mod Reading
pub mod Accepted
pub mod FirstBytes
mod Cases
mod Numbers
pub mod LimitBeforeSum
pub mod HydrogenClass
