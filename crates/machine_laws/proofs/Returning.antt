pub mod GivenBackLemmas
pub mod NoLoanLemmas
pub mod ReturnCallLemmas
pub mod ReturnMemoryLemmas
pub mod ReturnScalarLemmas
