pub mod ConnectCallLemmas
pub mod ConnectionLemmas
pub mod CreateServerLemmas
pub mod DestroyCallLemmas
pub mod NewServerLemmas
