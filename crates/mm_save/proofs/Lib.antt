pub mod Agreeing
pub mod Moving
pub mod Texts
mod Room
mod Places
mod Firsts
mod Paired
mod Walking
pub mod Clashing
mod Spelling
pub mod Saves
mod ReadingBack
