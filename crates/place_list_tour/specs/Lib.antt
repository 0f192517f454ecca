pub mod Lamps
