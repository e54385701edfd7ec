pub mod verify
