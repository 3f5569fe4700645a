-- The laws of lines that the code goes by.
pub mod AlikeLaws
pub mod SimpleLaws
pub mod MeetLaws
