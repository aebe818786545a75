pub mod GivenLemmas
pub mod AcceptedLemmas
