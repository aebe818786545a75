pub mod Edges
pub mod Graph
pub mod Paths
pub mod Searches
pub mod Searching
pub mod Told
