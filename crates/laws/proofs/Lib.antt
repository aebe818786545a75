mod HistoryLemmas
mod InterruptLemmas
mod LoadedLemmas
mod OrderLemmas
mod ReservedLemmas
mod SpinningLemmas
mod StoringLemmas
mod TimerStepLemmas
