pub mod ConvertedBootLemmas
pub mod MovedStartLemmas
