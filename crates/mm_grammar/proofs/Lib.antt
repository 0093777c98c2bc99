mod Keywords
mod Rows
mod Deciding
mod Lowest
mod Fitting
pub mod Causes
mod Known
mod Scoping
mod Answering
mod Begun
pub mod Following
pub mod Closing
mod Noting
mod Writing
mod Symbols
mod Ends
mod Steps
pub mod Written
mod Numbering
mod Going
mod Taking
mod Saying
pub mod Readable
mod Reaching
pub mod Exact
mod Floating
pub mod Substituting
mod Parting
pub mod Apart
