pub mod BoundsWorkLaws
