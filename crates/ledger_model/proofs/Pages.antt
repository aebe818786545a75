pub mod BareLemmas
pub mod SmallLemmas
pub mod WholePageLemmas
