pub mod Scanning
pub mod IdSegments
pub mod Table
