pub mod Keys
pub mod Laws
pub mod Lists
pub mod Once
pub mod Places
pub mod Readable
