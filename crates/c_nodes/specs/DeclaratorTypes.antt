pub mod DeclaratorViews
pub mod SpecifierViews
pub mod WordViews
