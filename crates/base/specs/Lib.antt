pub mod Buffers
pub mod CountLaws
pub mod Counts
pub mod Limits
pub mod Numbered
pub mod Refusals
pub mod Results
