-- What the probes of the fit and of the window answer.
pub mod Fitted
pub mod Placed
pub mod Sized
