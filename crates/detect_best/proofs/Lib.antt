pub mod BetterLaws
