pub mod Crossbar
