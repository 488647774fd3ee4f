pub mod key_map
