pub mod Answerable
