pub mod BackLemmas
pub mod FirstLentLemmas
pub mod LendLemmas
pub mod LenderPagesLemmas
pub mod LentBackLemmas
pub mod LentLoopLemmas
pub mod RunBackLemmas
pub mod SentLemmas
