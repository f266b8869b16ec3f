pub mod ForcedLaws
pub mod HiddenLaws
pub mod RowLemmas
pub mod WhyLaws
pub mod UnsetLaws
