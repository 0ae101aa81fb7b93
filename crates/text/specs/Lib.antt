pub mod Numbers
pub mod Words
pub mod Elements
pub mod Lines
pub mod Bytes
