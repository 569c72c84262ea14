pub mod LexLaws
pub mod RenderLaws
pub mod TextLaws
