pub mod SegmentLemmas
pub mod Ways
pub mod Earlier
pub mod Listing
pub mod TraceLemmas
pub mod Spreading
