pub mod Converse
pub mod SpanningSets
pub mod DrawnTrees
