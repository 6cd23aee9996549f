pub mod TextOrder
pub mod UntaggedNames
