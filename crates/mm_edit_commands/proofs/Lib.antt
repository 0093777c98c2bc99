pub mod Proved
pub mod ValueLemmas
pub mod EditLemmas
pub mod EditFits
pub mod KeepLemmas
