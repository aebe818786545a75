pub mod Interrupts
pub mod LoadedWord
pub mod Spinning
pub mod Standing
pub mod TimerSteps
