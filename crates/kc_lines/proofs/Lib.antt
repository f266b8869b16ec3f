pub mod CulpritLaws
pub mod HelpLaws
pub mod LoopLaws
pub mod NthLaws
pub mod PartLaws
pub mod StartLaws
