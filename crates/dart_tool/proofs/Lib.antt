pub mod CheckedLaws
pub mod LanguageLaws
pub mod Outcomes
pub mod ProgramLaws
pub mod Statuses
pub mod UnitLaws
