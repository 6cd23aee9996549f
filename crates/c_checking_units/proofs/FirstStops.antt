pub mod Clear
pub mod Shifted
pub mod ValueFaults
pub mod BracesFaults
pub mod Constants
pub mod DeclaredLocals
pub mod InnerAdditions
pub mod Stopped
pub mod ValueStops
pub mod Variables
pub mod LocalStops
pub mod DeclarationStops
pub mod LabelStops
pub mod JumpFaults
pub mod StatementTimely
pub mod BlockStops
pub mod StatementStops
pub mod BodyStops
pub mod UpTo
pub mod TextTimely
mod InitialExample
pub mod Tests
pub mod Behind
mod DeclaratorStops
pub mod ObjectStops
mod WholeDeclarators
mod OwnFunctions
pub mod DeclaratorsStop
pub mod FileDeclarations
pub mod ItemStops
pub mod OwnItems
mod Parameters
pub mod DefinitionStops
mod WholeDefinitions
mod OwnDefinitions
pub mod InitialsInTime
pub mod DeclaratorsInTime
pub mod ItemsInTime
pub mod UnreadFiles
pub mod BehindItems
pub mod FilesSoFar
pub mod FilesOfFaults
pub mod TextStops
