pub mod HitCaseLaws
