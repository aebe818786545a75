pub mod AlikeLemmas
pub mod BareTestLemmas
pub mod VerdictLemmas
