pub mod Normal
pub mod Lines
pub mod Laid
pub mod Words
