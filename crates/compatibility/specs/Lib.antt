-- What is promised of sheets that were there before a request of document 02: a file a request, each with the check as it was, as far as
-- the request changed it, and with what stays.
pub mod Texts
pub mod Judging
pub mod TypesByNumber
pub mod SevenDigits
pub mod StartNamed
pub mod EmptyStarts
pub mod LockLines
pub mod Freelock
pub mod PlainPrograms
