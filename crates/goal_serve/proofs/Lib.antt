pub mod PlacingLaws
pub mod WitnessLaws
pub mod ReachLaws
pub mod TryingLaws
pub mod AnswerLaws
pub mod KeyNameLaws
pub mod PrintLaws
pub mod PushLaws
