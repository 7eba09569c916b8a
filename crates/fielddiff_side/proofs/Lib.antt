pub mod ScanLaws
pub mod SideLaws
