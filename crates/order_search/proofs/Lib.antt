mod BeforeLemmas
mod ChoiceLemmas
mod DigestLemmas
mod EdgeLemmas
mod ExitLemmas
mod FaultLemmas
mod KeyLemmas
mod MarkLemmas
mod OrderLemmas
pub mod QuestLemmas
mod ReplayLemmas
mod RunLemmas
mod SpaceLemmas
mod StandLemmas
mod TellLemmas
mod ToldLemmas
mod TurnLemmas
