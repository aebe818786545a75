pub mod DyingLemmas
pub mod EndingLemmas
pub mod EventLemmas
pub mod KillLemmas
pub mod LastThreadLemmas
