pub mod KeptTurnLemmas
pub mod PassingLemmas
pub mod SchedulingLemmas
pub mod SteppedLemmas
pub mod TickedLemmas
