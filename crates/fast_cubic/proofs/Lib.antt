-- The laws of a span's weights and of its four by four taps.
pub mod KernelLaws
pub mod FourByFourLaws
