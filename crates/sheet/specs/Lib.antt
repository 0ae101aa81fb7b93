pub mod Faults
pub mod Sheets
pub mod Reads
pub mod Sections
