pub mod Asked
pub mod Groups
pub mod Effects
pub mod Calls
pub mod Ran
pub mod Logs
pub mod Laws
pub mod Histories
