pub mod BodyRounds
pub mod ItemRounds
pub mod PlacesOfTokens
pub mod FileTrees
pub mod OneDeclarator
