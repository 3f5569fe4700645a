pub mod Contains
