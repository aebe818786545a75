-- The verdict on each call.
pub mod InterruptRows
pub mod MemoryRows
pub mod MessageRows
pub mod QuestionRows
pub mod ServerRows
pub mod ThreadRows
