pub mod ListLemmas
pub mod PostLemmas
pub mod RosterLemmas
pub mod TapeLemmas
