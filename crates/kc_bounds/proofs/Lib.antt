pub mod BoundsLaws
pub mod DefinitionLists
pub mod ExprLemmas
pub mod OrderLemmas
pub mod ScopeLaws
pub mod SelectionLaws
pub mod SolutionLaws
pub mod TakenLists
