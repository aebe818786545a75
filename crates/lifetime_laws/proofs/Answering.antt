pub mod FreedCallLemmas
pub mod FreedLemmas
pub mod HeldLemmas
pub mod PromptLemmas
pub mod QueueLemmas
pub mod SenderLemmas
pub mod WorkLemmas
