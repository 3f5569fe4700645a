pub mod HexLaws
pub mod WordLaws
pub mod NumberLaws
pub mod PutLaws
