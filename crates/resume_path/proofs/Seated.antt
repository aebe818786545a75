pub mod AllBackLemmas
pub mod MachineBackLemmas
pub mod PartBackLemmas
pub mod PartCountLemmas
pub mod ShownBackLemmas
