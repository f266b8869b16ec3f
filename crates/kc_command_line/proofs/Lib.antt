pub mod FilteredPairs
