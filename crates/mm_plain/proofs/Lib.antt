pub mod Equations
pub mod Trees
pub mod Depths
pub mod Sizes
pub mod Kept
pub mod Read
pub mod Walks
pub mod Owned
pub mod Keys
pub mod Fine
mod Begun
pub mod Reading
pub mod Forms
mod Places
mod Labelling
pub mod Labels
pub mod Binding
pub mod Works
pub mod First
pub mod Occurring
pub mod Floats
pub mod Bounds
pub mod Parts
pub mod Moved
pub mod Grafts
pub mod Fresh
pub mod Drawing
pub mod LabelTrees
pub mod Puts
pub mod Nested
pub mod Children
pub mod Rows
pub mod Instances
