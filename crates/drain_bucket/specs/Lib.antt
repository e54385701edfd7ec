pub mod Reich
pub mod Stands
pub mod Word
