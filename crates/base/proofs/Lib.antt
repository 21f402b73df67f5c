pub mod BufferLemmas
pub mod CountLemmas
pub mod NumberedLemmas
