pub mod Histories
pub mod Undos
