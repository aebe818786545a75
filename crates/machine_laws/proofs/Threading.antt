pub mod ChangedThreadLemmas
pub mod EndThreadLemmas
pub mod LikeThreadLemmas
pub mod ThreadAnswerLemmas
pub mod ThreadMoveLemmas
pub mod ThreadPutLemmas
pub mod ThreadStepLemmas
