pub mod AnswerLaws
pub mod ApartLaws
pub mod ChangedLaws
pub mod FewestLaws
pub mod FragmentLaws
pub mod LackingLaws
pub mod NeededLaws
pub mod TakenLists
