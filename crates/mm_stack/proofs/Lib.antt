pub mod Parts
pub mod Turns
pub mod Instances
pub mod Assertions
pub mod RunLemmas
pub mod Kept
pub mod Substituting
mod Firsts
