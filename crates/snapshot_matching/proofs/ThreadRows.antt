pub mod EachThreadLemmas
pub mod JoiningLemmas
pub mod ReceivingLemmas
pub mod ServedLemmas
pub mod ThreadLemmas
