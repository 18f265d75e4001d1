pub mod FlatRows
pub mod Layout
pub mod RowList
pub mod Fronts
pub mod PrefixSums
pub mod Lists
