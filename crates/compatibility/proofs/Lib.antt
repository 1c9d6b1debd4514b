-- First what two headings have in common, then request by request that what specs/ says of its sheets holds, and the pairs that a former
-- check is tried on.
pub mod Texts
pub mod ZeroField
pub mod NoHeading
pub mod ProgramStages
pub mod Unless
pub mod TypesByNumber
pub mod TypesByNumberPairs
pub mod SevenDigits
pub mod SevenDigitsPairs
pub mod StartNamed
pub mod EmptyStarts
pub mod EmptyStartsPairs
pub mod LockLines
pub mod Freelock
pub mod FreelockPairs
pub mod PlainPrograms
pub mod PlainProgramsPairs
pub mod NoProcedures
pub mod EdgePairs
