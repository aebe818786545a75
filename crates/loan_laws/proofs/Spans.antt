pub mod SpanInductionLemmas
pub mod RunSpanLemmas
