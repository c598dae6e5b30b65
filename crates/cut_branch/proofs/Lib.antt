pub mod ScalingLaws
pub mod PlaceLaws
pub mod StepLaws
pub mod CutOffLaws
pub mod SplitLaws
pub mod PickLaws
pub mod SumLaws
