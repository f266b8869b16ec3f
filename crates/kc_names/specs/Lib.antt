pub mod BareNames
pub mod FoundNames
pub mod LongWords
pub mod MeantNames
pub mod NameEnds
pub mod NameForms
pub mod NearName
