pub mod Access
pub mod Known
pub mod UserRest
pub mod UserStores
pub mod UserView
pub mod Walking
