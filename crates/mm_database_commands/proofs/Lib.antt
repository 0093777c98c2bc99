pub mod LoadLemmas
pub mod VerifyLemmas
pub mod DatabaseFits
