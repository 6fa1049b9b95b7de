pub mod Readings
mod Lines
mod FirstBytes
