pub mod ExchangeLemmas
pub mod MoveLemmas
