pub mod SaveLemmas
pub mod CompleteLemmas
pub mod ProofFits
mod ProveLemmas
