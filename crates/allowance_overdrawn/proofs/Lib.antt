pub mod OverdrawnLaws
