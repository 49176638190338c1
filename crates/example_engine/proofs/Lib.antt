pub mod MoreCases
