pub mod NodeViews
pub mod NodeJson
pub mod Bodies
pub mod BodyCalls
pub mod BodiesFaultTexts
pub mod NodeIds
pub mod steps
