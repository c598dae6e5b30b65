pub mod PairingLaws
pub mod ReportLaws
pub mod ServingLaws
pub mod RightLaws
