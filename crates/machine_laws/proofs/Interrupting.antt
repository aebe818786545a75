pub mod IrqClaimLemmas
pub mod IrqDeliveryLemmas
pub mod IrqHandlerLemmas
pub mod TimedLemmas
