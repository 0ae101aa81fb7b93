pub mod Steps
pub mod Refusing
pub mod PowerSums
pub mod Wholes
pub mod Nets
pub mod Netting
pub mod Agreeing
pub mod Comparing
