pub mod Growing
pub mod Parted
pub mod Returned
pub mod Clean
pub mod Grouped
