mod AboutLemmas
mod BusyLemmas
mod KeptLemmas
pub mod LineLemmas
mod NameLemmas
mod RowLemmas
mod TextLemmas
