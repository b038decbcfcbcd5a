-- The definitions of the name readers: what a name is read as, and how the code keeps its tables.
pub mod Names
pub mod Table
