pub mod SummaryLemmas
