-- The state of the machine: what it is made of, and how its parts are found and changed.
pub mod Changes
pub mod Connections
pub mod Machine
pub mod Order
pub mod Servers
pub mod Start
pub mod Threads
pub mod Views
