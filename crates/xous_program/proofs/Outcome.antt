pub mod ResumeLemmas
pub mod SuspendLemmas
pub mod TopLemmas
pub mod TrustLemmas
