mod Stepping
mod Following
mod Parts
mod Turning
mod Proofs
mod Bytes
mod Texts
mod Gluing
mod Replacing
mod Finding
mod Placing
pub mod Keeping
mod Memory
mod Places
mod Judging
pub mod Verdicts
mod Describing
mod Overlaying
pub mod Agreeing
