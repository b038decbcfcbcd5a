-- The definitions of the third demand: the exact source point, the chain conditions, lists of calls and memory.
pub mod Conditions
pub mod Demand
pub mod Exact
pub mod ExactPoint
pub mod Memory
pub mod Warps
