pub mod DownRunLaws
