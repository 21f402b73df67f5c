pub mod TuneLemmas
