-- What the probes of source points answer.
pub mod Pointed
pub mod Points
pub mod Rows
