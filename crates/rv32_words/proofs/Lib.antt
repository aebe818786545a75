pub mod ExtensionLemmas
pub mod FormatFieldLemmas
pub mod FoundLemmas
pub mod OnlyLemmas
