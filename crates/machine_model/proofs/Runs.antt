pub mod KeptLemmas
pub mod SpanLemmas
pub mod TimerLemmas
