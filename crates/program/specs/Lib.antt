pub mod Refusals
pub mod Answer
pub mod Accepted
pub mod Word
pub mod Kinds
pub mod Ops
pub mod Places
pub mod Values
