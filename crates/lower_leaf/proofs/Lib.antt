pub mod FormLaws
pub mod TypeLaws
pub mod Steps
pub mod Signatures
pub mod Trees
pub mod ParameterSteps
