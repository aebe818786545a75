pub mod SplitCallLemmas
pub mod SplitLemmas
