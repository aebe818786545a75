pub mod AloneLemmas
pub mod ApartLemmas
pub mod CapacityLemmas
pub mod HolderLemmas
pub mod OrphanLemmas
pub mod PageLemmas
pub mod PlacedLemmas
