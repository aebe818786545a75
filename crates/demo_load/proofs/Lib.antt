pub mod LoadHistoryLemmas
pub mod LoadImageLemmas
pub mod LoadPlayingLemmas
pub mod LoadTotalsLemmas
