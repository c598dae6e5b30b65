pub mod EachLaws
pub mod SquareLaws
pub mod ProductLaws
pub mod SourceLaws
pub mod OrderLaws
pub mod EnrichingLaws
