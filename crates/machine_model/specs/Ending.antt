-- How servers, processes, threads and handlers end.
pub mod Closing
pub mod Ends
