pub mod Shelves
pub mod Bodies
