pub mod CallNumbers
pub mod CallWords
pub mod Calls
pub mod Families
pub mod Flags
pub mod MapFlags
pub mod Replies
pub mod ReplyWords
