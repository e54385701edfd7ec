pub mod Fields
pub mod Readers
pub mod Tables
