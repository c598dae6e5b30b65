pub mod Ring
pub mod QuotientLaws
pub mod DivisorLaws
pub mod FracLaws
pub mod BoolLaws
pub mod TestLaws
pub mod ListLaws
pub mod OptionLaws
