pub mod OrphanBackLemmas
pub mod OrphanLemmas
pub mod OrphanLoopLemmas
pub mod OrphanSearchLemmas
pub mod OrphanStepLemmas
pub mod OrphansBackLemmas
