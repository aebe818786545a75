pub mod EventLemmas
pub mod InstructionLemmas
pub mod RunLemmas
pub mod SeenMemoryLemmas
pub mod StepLemmas
