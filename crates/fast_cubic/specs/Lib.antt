-- The definitions of a span's weights and of its four by four taps.
pub mod Kernels
pub mod FourByFours
