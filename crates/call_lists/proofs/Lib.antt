mod CallLemmas
pub mod SlotLemmas
