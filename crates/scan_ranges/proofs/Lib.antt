pub mod RunLaws
pub mod GoingLaws
pub mod ValueLaws
pub mod HeldLaws
