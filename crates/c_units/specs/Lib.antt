pub mod RecognisedParts
pub mod SizeOperands
pub mod ValuedObjects
pub mod CollectedTypes
pub mod NumberedParts
pub mod UnitWith
