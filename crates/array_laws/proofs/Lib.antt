-- The texts of a batch's samples.
pub mod BatchTexts
-- Lists with numbers
pub mod Numbered
pub mod RowNumbers
-- The lines of rows
pub mod TreeTexts
pub mod OrientationTexts
pub mod AssignmentTexts
-- The laws
pub mod RowTexts
pub mod FormulaTexts
