mod Strings
mod Pairs
mod Popped
mod Assertion
pub mod Runs
pub mod Spelled
pub mod Shared
pub mod Labelled
pub mod Mandatory
pub mod Accepted
pub mod NoWork
pub mod Incomplete
pub mod WithoutPairs
pub mod Paired
mod PushedValues
mod PushedSteps
mod PushedRuns
mod PushedShapes
mod Active
mod Fitting
mod Proven
