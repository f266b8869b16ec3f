pub mod FirstLaws
pub mod FormLaws
pub mod FoundLaws
pub mod NearLaws
pub mod BareLaws
pub mod EndLaws
pub mod LongWordLaws
