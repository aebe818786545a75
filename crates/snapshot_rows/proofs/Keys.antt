pub mod CountLemmas
pub mod DifferLemmas
pub mod NumberLemmas
pub mod SearchLemmas
