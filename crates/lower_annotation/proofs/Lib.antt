pub mod Items
pub mod Law
pub mod Pushed
pub mod Rounds
pub mod Texts
pub mod Views
