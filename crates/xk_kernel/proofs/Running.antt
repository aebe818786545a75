pub mod RanLemmas
pub mod RunLemmas
pub mod SomeLemmas
