pub mod Alike
pub mod AlikeRuns
pub mod Checked
pub mod OneRun
pub mod Runs
pub mod Stripped
