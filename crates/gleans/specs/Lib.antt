pub mod Gleans
