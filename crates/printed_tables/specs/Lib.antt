pub mod Counts
pub mod Figures
pub mod Gas
pub mod TableD1
pub mod Text
pub mod Parts
