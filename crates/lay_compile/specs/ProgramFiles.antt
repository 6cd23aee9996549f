pub mod Outside
pub mod Reading
pub mod FrontEnd
