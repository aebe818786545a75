pub mod JoinLemmas
pub mod OneRunLemmas
pub mod RunLemmas
pub mod SaidLemmas
pub mod StandsLemmas
pub mod ToldLemmas
