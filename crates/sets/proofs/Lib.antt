pub mod BitLemmas
pub mod MemberLemmas
pub mod TextLemmas
