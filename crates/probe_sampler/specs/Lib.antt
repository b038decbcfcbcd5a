-- What the probes of the sampler answer.
pub mod Many
pub mod Sampled
pub mod Weights
