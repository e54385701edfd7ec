pub mod Due
pub mod Order
