pub mod Orders
pub mod Lasting
pub mod Timelines
