pub mod Views
pub mod Nodes
pub mod FileViews
