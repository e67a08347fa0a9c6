pub mod Extraction
