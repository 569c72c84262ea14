pub mod Render
pub mod Spelling
-- means of proof
pub mod Held
