mod Tables
mod Marking
pub mod LookBack
mod Chains
mod Distinct
mod Numbered
mod Nesting
mod Layering
mod Changing
