pub mod Patterns
pub mod Segments
pub mod Uses
pub mod Marks
pub mod Traces
