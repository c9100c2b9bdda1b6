pub mod KeepsSix
