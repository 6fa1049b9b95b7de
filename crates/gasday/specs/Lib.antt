pub mod Metered
pub mod Text
pub mod Read
pub mod Lines
