pub mod FairLemmas
pub mod FootprintLemmas
pub mod GoingLemmas
pub mod NearingLemmas
pub mod RoundLemmas
pub mod StarveLemmas
