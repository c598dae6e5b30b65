pub mod WordLaws
pub mod EndingLaws
pub mod SoundLaws
pub mod CallingLaws
