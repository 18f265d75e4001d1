-- Carrying: an error that is passed on, and errors of a part that are errors of the whole.
pub mod Carrying
-- RefusedTexts: how a text is refused that its grammar refuses.
pub mod RefusedTexts
-- RefusedForms: how a formula, a graph or a grid is refused.
pub mod RefusedForms
-- MadeTexts: what is made by the command of a text. MadeInstances: what is made is that of the definitions, and can be
-- told. MadeExtremal: it is extremal.
mod MadeTexts
pub mod MadeInstances
pub mod MadeExtremal
-- TextRefusals: what refuses a text is told.
pub mod TextRefusals
