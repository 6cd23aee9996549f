pub mod WholeFiles
pub mod TextOrder
