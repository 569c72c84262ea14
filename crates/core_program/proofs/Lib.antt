pub mod Views
pub mod Loosened
pub mod Seeks
pub mod Exact
pub mod ClassesStay
pub mod CapturesStay
pub mod FormsStay
pub mod Stays
