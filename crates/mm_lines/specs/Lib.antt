pub mod Limits
pub mod Lines
pub mod Parts
pub mod Reader
pub mod Run
pub mod State
