pub mod Contents
pub mod Access
pub mod Logs
pub mod Nets
pub mod Reach
pub mod Bodies
