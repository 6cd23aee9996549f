pub mod FilesOfNames
pub mod PlacesOfRefusals
