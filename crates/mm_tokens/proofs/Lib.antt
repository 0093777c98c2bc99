pub mod Places
pub mod Cuts
pub mod Words
pub mod OnlyParts
pub mod Phrases
mod Folds
