pub mod BodyCalls
pub mod BodyNumbers
pub mod IdEscapes
pub mod JsonObjects
pub mod NodeSearches
