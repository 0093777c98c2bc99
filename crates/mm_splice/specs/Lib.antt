pub mod Moved
pub mod Splicing
pub mod Keeping
pub mod Answered
pub mod Judging
pub mod Overlay
pub mod Agreeing
