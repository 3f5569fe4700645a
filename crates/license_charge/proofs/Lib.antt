pub mod PayLaws
pub mod ChargeLaws
