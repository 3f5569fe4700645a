-- A line of a list of accepted parts, read without the automaton.
pub mod Line
