-- What instructions do.
pub mod Atomics
pub mod Instructions
