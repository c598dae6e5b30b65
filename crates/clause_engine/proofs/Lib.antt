pub mod NumberedLaws
pub mod SmallLaws
pub mod EngineLaws
