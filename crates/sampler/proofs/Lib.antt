-- The laws of the sampler, a file for each subject.
pub mod AtFinite
pub mod AtOpaque
pub mod BilinearOpaque
pub mod FourByFourCode
pub mod InsideLaws
pub mod InterpolateCode
pub mod InterpolateFinite
pub mod MixedLaws
pub mod ReachLaws
pub mod SixteenCode
pub mod TwoByTwoLaws
