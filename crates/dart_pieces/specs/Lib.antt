pub mod Bytes
pub mod Comments
pub mod Cuts
pub mod Numbers
pub mod Pieces
pub mod Strings
-- means of proof
pub mod Marks
pub mod Reader
