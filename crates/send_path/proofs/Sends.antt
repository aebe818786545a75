pub mod ArriveLemmas
pub mod MatchedSendLemmas
pub mod SendLemmas
pub mod SendRowLemmas
pub mod SentLemmas
pub mod SentSoundLemmas
pub mod TrySendLemmas
