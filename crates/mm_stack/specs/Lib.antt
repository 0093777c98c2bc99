pub mod Entries
pub mod Seats
pub mod Substitution
pub mod Differing
pub mod Running
pub mod Accepting
pub mod Machines
pub mod Laws
