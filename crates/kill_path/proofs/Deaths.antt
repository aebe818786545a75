-- The end of a server by a call, and the death of a process.
pub mod DestroyLemmas
pub mod ForgottenLemmas
pub mod KillLemmas
