pub use Rattle.bson_de_raw.specs.Gives
pub mod Options
pub mod Bare
