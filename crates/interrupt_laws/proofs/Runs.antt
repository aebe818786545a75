pub mod ClaimantLemmas
pub mod MomentLemmas
pub mod RaiseLemmas
pub mod RunLemmas
