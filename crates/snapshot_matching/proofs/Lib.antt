pub mod FirstLemmas
pub mod KeysLemmas
pub mod Loans
pub mod ProcessRows
pub mod SameLemmas
pub mod ServerRows
pub mod ThreadRows
