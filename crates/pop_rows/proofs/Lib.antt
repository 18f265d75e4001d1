pub mod Puts
mod EmptyRows
mod PushedRows
mod RowsEndToEnd
pub mod SumsInPlace
mod FrontsLemmas
