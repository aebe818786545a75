-- The kernel makes calls on messages.
pub mod PartsLemmas
pub mod ReceivedLemmas
pub mod RowLemmas
pub mod SendingLemmas
