pub mod Numerals
pub mod Cuts
pub mod Rows
pub mod Split
pub mod Hex
pub mod Made
