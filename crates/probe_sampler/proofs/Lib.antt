-- The laws of the probes.
pub mod SampledLaws
