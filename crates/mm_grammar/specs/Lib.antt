pub mod Phrases
pub mod Rules
pub mod Readable
pub mod Written
pub mod Apart
pub mod Beginnings
pub mod Faults
