mod Gathered
pub mod Rising
mod Gathering
