pub mod Saving
pub mod Saved
pub mod Outside
pub mod Clashes
pub mod ReadBack
