pub mod LineTexts
pub mod FlashForms
pub mod MacroUses
pub mod RelocationBlocks
pub mod TokenPieces
pub mod StatedOptions
