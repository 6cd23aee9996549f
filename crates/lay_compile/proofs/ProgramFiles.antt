pub mod FilesRead
pub mod FrontFaults
pub mod Sources
