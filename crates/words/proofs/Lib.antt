pub mod Lexemes
pub mod Lines
pub mod Oks
pub mod Spans
pub mod Spells
