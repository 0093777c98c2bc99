pub mod Numbers
pub mod Complete
pub mod Apart
pub mod Proves
pub mod Written
pub mod LabelTrees
pub mod Pushed
pub mod Substituted
