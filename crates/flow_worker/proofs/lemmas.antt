pub mod crew
