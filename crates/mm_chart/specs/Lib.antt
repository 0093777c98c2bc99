pub mod Options
pub mod Items
pub mod Charts
