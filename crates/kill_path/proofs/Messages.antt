-- What a dying process waits for, and how it leaves the servers of others.
pub mod LeavingLemmas
pub mod OrphanLemmas
pub mod LeaveStepLemmas
pub mod LeaveSetLemmas
pub mod LeaveFoundLemmas
pub mod LeaveSeatLemmas
pub mod LeftLemmas
