pub mod FreeKeys
