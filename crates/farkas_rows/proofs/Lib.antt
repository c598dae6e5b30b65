pub mod FractionLaws
pub mod FarkasLaws
pub mod CombinedLaws
pub mod FormBoundLaws
pub mod PartLaws
pub mod CertificateLaws
pub mod HalfLaws
