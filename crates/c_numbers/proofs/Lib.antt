pub mod KeyNumbers
pub mod NewNumbers
pub mod TypeNumbers
