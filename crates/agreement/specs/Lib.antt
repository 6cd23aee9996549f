pub mod Agreement
pub mod Real
pub mod Laws
