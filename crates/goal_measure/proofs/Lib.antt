pub mod CapLaws
pub mod BoundLaws
