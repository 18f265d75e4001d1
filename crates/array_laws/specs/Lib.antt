pub mod BatchTexts
pub mod PrintedRows
pub mod PrintedAssignments
