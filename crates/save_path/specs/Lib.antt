pub mod Fitting
pub mod Pages
pub mod Rows
pub mod Saved
pub mod Servers
pub mod Written
