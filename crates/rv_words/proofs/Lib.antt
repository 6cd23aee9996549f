pub mod Values
