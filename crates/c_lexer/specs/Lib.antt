pub mod Answers
pub mod NumberScan
pub mod DirectiveScan
pub mod PresumingScan
pub mod Scanning
pub mod Readings
pub mod StringBytes
