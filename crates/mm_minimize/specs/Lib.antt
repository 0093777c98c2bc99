pub mod Candidates
pub mod Combinations
pub mod Minimising
pub mod Chains
pub mod Replacing
