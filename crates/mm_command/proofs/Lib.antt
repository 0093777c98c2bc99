pub mod Cutting
pub mod Mapped
pub mod Qualifiers
pub mod Excluded
pub mod Arguments
pub mod Choosing
pub mod MeaningLemmas
