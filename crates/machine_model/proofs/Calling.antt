pub mod ArgumentLemmas
pub mod MapRowLemmas
pub mod RefusalLemmas
pub mod TableLemmas
