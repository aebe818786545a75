pub mod FewLemmas
pub mod RingLemmas
