pub mod report
