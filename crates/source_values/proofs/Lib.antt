pub mod Outside
pub mod ByNumber
pub mod Past
