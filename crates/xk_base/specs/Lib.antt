pub mod Calls
pub mod Log
pub mod Numbers
pub mod Outside
pub mod Tables
pub mod UserMemory
