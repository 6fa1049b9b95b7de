pub mod Tests
pub mod Table
pub mod Temperatures
pub mod Rule
pub mod Composition
pub mod Bounds
