pub mod Stated
pub mod Statements
pub mod Mandatory
pub mod Needed
pub mod Typecodes
pub mod Ordered
