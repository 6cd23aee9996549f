pub mod Views
pub mod Scoping
pub mod Places
pub mod SyntaxTags
