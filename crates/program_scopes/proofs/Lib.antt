pub mod JudgingLaws
pub mod ScopeLaws
pub mod ScopeLoop
pub mod Tables
pub mod Walk
pub mod Bodies
pub mod Resolved
