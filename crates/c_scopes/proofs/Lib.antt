mod FirstBounds
mod FirstPlaces
pub mod SyntaxTags
