pub mod MemberFacts
pub mod TextFacts
