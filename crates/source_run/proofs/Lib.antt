pub mod Appending
pub mod Reaching
pub mod Stopping
pub mod Zeros
pub mod Beginning
pub mod Further
