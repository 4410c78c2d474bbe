pub mod ContextLaws
pub mod FramingLaws
pub mod PiecesLaws
pub mod StreamStateLaws
pub mod Exports
