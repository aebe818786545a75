pub mod FileLemmas
pub mod OnceLemmas
pub mod StateLemmas
