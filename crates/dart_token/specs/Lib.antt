pub mod Sign
pub mod Word
-- means of proof
pub mod Lookup
